use Rattle.avro_zigzag.proofs.public.NumberOrFault.{long_stands_or_fails}
use Rattle.avro_zigzag.proofs.laws.long_or_fault.Goals as goal

pub returns : goal.returns
returns c = long_stands_or_fails
