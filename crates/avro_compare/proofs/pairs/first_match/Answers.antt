use Rattle.std.proofs.Common.{◌∙◌}
use Rattle.avro_schema.specs.Node.{node_at}
use Rattle.avro_schema.specs.SeenSchema.{schema_nodes}
use Rattle.avro_compare.proofs.Pairing.{match_of_branches}
use Rattle.avro_compare.proofs.pairs.first_match.Goals as goal

pub returns : goal.returns
returns c =
    let ws = schema_nodes c.args.writer.now in
    let rs = schema_nodes c.args.reader.now in
    c.first_index.ensures ∙ match_of_branches ws rs (node_at ws c.args.w.0) (node_at rs c.args.r.0)
