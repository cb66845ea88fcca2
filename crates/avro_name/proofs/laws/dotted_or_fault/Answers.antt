use Rattle.avro_name.proofs.Spellings.{dotted_or_fault_lem}
use Rattle.avro_name.proofs.laws.dotted_or_fault.Goals as goal

pub returns : goal.returns
returns c = dotted_or_fault_lem
