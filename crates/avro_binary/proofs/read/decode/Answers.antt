use Rattle.avro_schema.specs.Node.{node_at}
use Rattle.avro_schema.specs.SeenSchema.{schema_nodes}
use Rattle.avro_binary.proofs.ExactReads.{decoded}
use Rattle.avro_binary.proofs.read.decode.Goals as goal

pub returns : goal.returns
returns c =
    let nodes = schema_nodes c.args.schema.now in
    decoded nodes (node_at nodes c.args.node.0) c.args.limits.now c.args.bytes.now c.read_node.result c.read_node.ensures
