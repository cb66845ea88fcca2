use Rattle.avro_binary.proofs.EncodingOrFault.{encoding_or_fault_lem}
use Rattle.avro_binary.proofs.laws.encoding_or_fault.Goals as goal

pub returns : goal.returns
returns c = encoding_or_fault_lem
