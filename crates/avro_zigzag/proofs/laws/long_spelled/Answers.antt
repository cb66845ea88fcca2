use Rattle.avro_zigzag.proofs.public.Spelling.{SpellsLong-from_shortest}
use Rattle.avro_zigzag.proofs.laws.long_spelled.Goals as goal

pub returns : goal.returns
returns c = SpellsLong-from_shortest
