use Rattle.avro_schema.specs.SeenSchema.{schema_nodes}
use Rattle.avro_resolve.proofs.OnePass.{answered}
use Rattle.avro_resolve.proofs.read.decode_resolved.Goals as goal

pub returns : goal.returns
returns c = answered (schema_nodes c.args.writer.now) (schema_nodes c.args.reader.now) c.args.limits.now c.args.bytes.now c.read_resolved.result c.read_resolved.ensures
