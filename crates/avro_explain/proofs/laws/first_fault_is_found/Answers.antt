use Rattle.avro_explain.proofs.FirstFaults.{first_found}
use Rattle.avro_explain.proofs.laws.first_fault_is_found.Goals as goal

pub returns : goal.returns
returns c = λ writer reader dead formed all. first_found writer reader dead all formed
