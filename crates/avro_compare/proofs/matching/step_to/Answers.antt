use Rattle.std.proofs.Common.{sym, subst}
use Rattle.avro_schema.specs.Node.{Node}
use Rattle.avro_schema.specs.Seen.{node_of}
use Rattle.avro_schema.specs.SeenSchema.{schema_nodes}
use Rattle.avro_compare.specs.Pairs.{IsOutcome}
use Rattle.avro_compare.specs.inside.NamedTypes.{TellsAlike}
use Rattle.avro_compare.proofs.matching.step_to.Goals as goal

pub step_of-requires : goal.step_of-requires
step_of-requires c = subst (λ (n : Node). TellsAlike (node_of c.args.a.now) n c.args.known) (sym c.get.ensures.node) c.requires

pub returns : goal.returns
returns c = λ writer.
    subst (λ n. IsOutcome writer (schema_nodes c.args.reader.now) (node_of c.args.a.now) n c.step_of.result) c.get.ensures.node (c.step_of.ensures writer (schema_nodes c.args.reader.now))
