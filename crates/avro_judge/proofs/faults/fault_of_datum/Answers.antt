use Rattle.avro_schema.specs.SeenSchema.{schema_nodes}
use Rattle.avro_judge.proofs.faults.fault_of_datum.Goals as goal

pub plan-plan-requires : goal.plan-plan-requires
plan-plan-requires c = c.of_one_read-table.ensures (schema_nodes c.args.writer.now) (schema_nodes c.args.reader.now) c.requires.found
