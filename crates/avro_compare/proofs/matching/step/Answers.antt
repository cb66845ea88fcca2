use Rattle.std.proofs.Common.{sym, subst}
use Rattle.avro_schema.specs.Node.{Node, node_at}
use Rattle.avro_schema.specs.SeenSchema.{schema_nodes}
use Rattle.avro_compare.specs.Pairs.{IsOutcome}
use Rattle.avro_compare.specs.inside.NamedTypes.{TellsAlike}
use Rattle.avro_compare.proofs.matching.step.Goals as goal

pub step_to-requires : goal.step_to-requires
step_to-requires c = subst (λ (n : Node). TellsAlike n (node_at (schema_nodes c.args.reader.now) c.args.r.0) c.alike.result) (sym c.get.ensures.node) c.alike.ensures

pub returns : goal.returns
returns c =
    subst (λ n. IsOutcome (schema_nodes c.args.writer.now) (schema_nodes c.args.reader.now) n (node_at (schema_nodes c.args.reader.now) c.args.r.0) c.step_to.result)
    c.get.ensures.node (c.step_to.ensures (schema_nodes c.args.writer.now))
