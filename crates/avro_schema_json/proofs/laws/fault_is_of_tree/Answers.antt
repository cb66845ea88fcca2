use Rattle.avro_schema_json.proofs.MadeSound.{fault-other}
use Rattle.avro_schema_json.proofs.laws.fault_is_of_tree.Goals as goal

pub returns : goal.returns
returns c = fault-other
