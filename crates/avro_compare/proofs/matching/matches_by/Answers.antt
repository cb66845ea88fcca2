use Rattle.avro_schema.specs.SeenSchema.{schema_nodes}
use Rattle.avro_schema.specs.Node.{node_at}
use Rattle.avro_compare.proofs.Pairing.{same_steps}
use Rattle.avro_compare.proofs.matching.matches_by.Goals as goal

pub returns : goal.returns
returns c =
    same_steps (schema_nodes c.args.writer.now) (schema_nodes c.args.reader.now) (node_at (schema_nodes c.args.writer.now) c.args.w.0) (node_at (schema_nodes c.args.reader.now) c.args.r.0)
    c.len.result c.match_within.result c.len.ensures.count c.match_within.ensures
