use Rattle.avro_schema.proofs.public.NodeFaults.{is_schema-where_no_fault}
use Rattle.avro_schema.proofs.laws.schema_where_no_fault.Goals as goal

pub returns : goal.returns
returns c = is_schema-where_no_fault
