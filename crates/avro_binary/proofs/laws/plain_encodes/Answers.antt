use Rattle.avro_binary.proofs.Plain.{Encodes-plain}
use Rattle.avro_binary.proofs.laws.plain_encodes.Goals as goal

pub returns : goal.returns
returns c = Encodes-plain
