use Rattle.avro_binary.proofs.OneFaults.{one_fault_lem}
use Rattle.avro_binary.proofs.laws.one_fault.Goals as goal

pub returns : goal.returns
returns c = one_fault_lem
