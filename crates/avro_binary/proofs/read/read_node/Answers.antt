use Rattle.avro_schema.specs.Node.{node_at}
use Rattle.avro_schema.specs.SeenSchema.{schema_nodes}
use Rattle.avro_binary.proofs.ExactReads.{weakened}
use Rattle.avro_binary.proofs.read.read_node.Goals as goal

pub returns : goal.returns
returns g c =
    let nodes = schema_nodes c.args.schema.now in
    weakened nodes (node_at nodes c.args.node.0) c.args.limits.now c.args.bytes.now c.read_made.result (λ r v made. made.1) c.read_made.ensures.reads
