use Rattle.avro_schema.specs.SeenSchema.{schema_nodes}
use Rattle.avro_schema.specs.Node.{node_at}
use Rattle.avro_compare.proofs.Pairing.{same_steps, test_is_relation}
use Rattle.avro_compare.proofs.matching.matches.Goals as goal

pub returns-clause-test : goal.returns-clause-test
returns-clause-test c =
    same_steps (schema_nodes c.args.writer.now) (schema_nodes c.args.reader.now) (node_at (schema_nodes c.args.writer.now) c.args.w.0) (node_at (schema_nodes c.args.reader.now) c.args.r.0)
    c.len.result c.match_within.result c.len.ensures.count c.match_within.ensures

pub returns-clause-relation : goal.returns-clause-relation
returns-clause-relation c =
    test_is_relation (schema_nodes c.args.writer.now) (schema_nodes c.args.reader.now) c.args.w.0 (node_at (schema_nodes c.args.reader.now) c.args.r.0) c.match_within.result c.len.ensures.formed
    (same_steps (schema_nodes c.args.writer.now) (schema_nodes c.args.reader.now) (node_at (schema_nodes c.args.writer.now) c.args.w.0) (node_at (schema_nodes c.args.reader.now) c.args.r.0)
    c.len.result c.match_within.result c.len.ensures.count c.match_within.ensures)
