use Rattle.std.proofs.Common.{◌≡◌, List, Option, Some, subst}
use Rattle.std.proofs.lemmas.Option.{IfSome_then}
use Rattle.std.specs.Prelude.{slice_get}
use Rattle.avro_schema.specs.Node.{node_at}
use Rattle.avro_schema.specs.SeenSchema.{schema_nodes}
use Rattle.avro_schema.specs.declared.empties.Empty.{Empty}
use Rattle.avro_schema.proofs.EmptyData.{entry_shown}
use Rattle.avro_schema.proofs.schema.Schema.empty.Goals as goal

pub returns : goal.returns
returns c =
    IfSome_then c.known_at.result c.known_at.ensures (λ e found.
    entry_shown (schema_nodes c.args.self.now) (node_at (schema_nodes c.args.self.now) c.args.id.0) e
    (c.args.self.now.are_empties c.args.id.0 e (subst (λ (known : List (Option Empty)). slice_get known c.args.id.0 ≡ Some (Some e)) c.deref.ensures.value found)))
