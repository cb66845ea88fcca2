use Rattle.avro_binary.proofs.NoFront.{no_front_of_fault}
use Rattle.avro_binary.proofs.laws.fault_leaves_none.Goals as goal

pub returns : goal.returns
returns c = no_front_of_fault
