use Rattle.avro_binary.proofs.NoFront.{no_front_within}
use Rattle.avro_binary.proofs.laws.fault_or_within.Goals as goal

pub returns : goal.returns
returns c = no_front_within
