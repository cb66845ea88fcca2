use Rattle.avro_schema_json.proofs.DeclarationLaws.{none_declared-from_fault}
use Rattle.avro_schema_json.proofs.laws.fault_leaves_none.Goals as goal

pub returns : goal.returns
returns c = none_declared-from_fault
