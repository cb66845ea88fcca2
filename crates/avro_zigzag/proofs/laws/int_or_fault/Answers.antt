use Rattle.avro_zigzag.proofs.public.NumberOrFault.{int_stands_or_fails}
use Rattle.avro_zigzag.proofs.laws.int_or_fault.Goals as goal

pub returns : goal.returns
returns c = int_stands_or_fails
