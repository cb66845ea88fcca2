use Rattle.std.proofs.Common.{List, subst, sym}
use Rattle.std.specs.Global.{Vec}
use Rattle.std.specs.Prelude.{drop}
use Rattle.avro_schema.specs.Node.{node_at}
use Rattle.avro_schema.specs.Runs.{AreAllRuns, ids_at}
use Rattle.avro_schema.specs.SeenSchema.{schema_nodes}
use Rattle.avro_schema.specs.declared.runs.EmptyFields.{EmptyFields}
use Rattle.avro_schema.proofs.RunData.{run_shown}
use Rattle.avro_schema.proofs.schema.Schema.empty_fields.Goals as goal

pub returns : goal.returns
returns c = λ k run found.
    run_shown (schema_nodes c.args.self.now) (drop k (ids_at (node_at (schema_nodes c.args.self.now) c.args.id.0))) run
    (c.runs_at.ensures (schema_nodes c.args.self.now) (subst (λ (lists : List (Vec EmptyFields)). AreAllRuns (schema_nodes c.args.self.now) lists) (sym c.deref.ensures.value) c.args.self.now.are_runs) k run found)
