use Rattle.avro_binary.proofs.Front.{one_front}
use Rattle.avro_binary.proofs.laws.prefix.Goals as goal

pub returns : goal.returns
returns c = one_front
