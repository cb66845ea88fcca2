use Rattle.avro_schema_json.proofs.DeclarationLaws.{fault-from_none_declared}
use Rattle.avro_schema_json.proofs.laws.schema_or_fault.Goals as goal

pub returns : goal.returns
returns c = fault-from_none_declared
