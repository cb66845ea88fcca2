use Rattle.std.proofs.Common.{ℕ, None, Option, subst, sym}
use Rattle.avro_schema.specs.Node.{node_at}
use Rattle.avro_schema.specs.SeenSchema.{schema_nodes}
use Rattle.avro_show.specs.Spans.{IsOpening}
use Rattle.avro_show.proofs.Opened.{none_opens, opens}
use Rattle.avro_show.proofs.displaying.Displaying.opening.Goals as goal

pub returns-in-Some : goal.returns-in-Some
returns-in-Some c =
    let n = node_at (schema_nodes c.args.self.now.table.now) c.args.at.node.0 in
    subst (λ (b : Option ℕ). IsOpening c.opening.result n b) (sym c.in-Some.is) (opens n c.in-Some.field-0 c.opening.result c.opening.ensures)

pub returns-in-None : goal.returns-in-None
returns-in-None c =
    let n = node_at (schema_nodes c.args.self.now.table.now) c.args.at.node.0 in
    subst (λ (b : Option ℕ). IsOpening None n b) (sym c.in-None.is) (none_opens n)
