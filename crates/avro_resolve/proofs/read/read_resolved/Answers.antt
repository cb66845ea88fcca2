use Rattle.avro_schema.specs.SeenSchema.{schema_nodes}
use Rattle.avro_resolve.proofs.read.read_resolved.Goals as goal

pub plan-plan-requires : goal.plan-plan-requires
plan-plan-requires g c = c.none-table.ensures (schema_nodes c.args.writer.now) (schema_nodes c.args.reader.now)
