use Rattle.avro_explain.proofs.LocalFaults.{no_details, no_fault}
use Rattle.avro_explain.proofs.laws.fault_is_local.Goals as goal

pub returns : goal.returns
returns c = λ writer reader n q. (no_fault writer reader n q, no_details writer reader n q)
