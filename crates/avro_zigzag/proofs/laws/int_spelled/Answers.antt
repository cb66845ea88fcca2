use Rattle.avro_zigzag.proofs.public.Spelling.{SpellsInt-from_shortest}
use Rattle.avro_zigzag.proofs.laws.int_spelled.Goals as goal

pub returns : goal.returns
returns c = SpellsInt-from_shortest
