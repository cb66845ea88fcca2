use Rattle.avro_zigzag.proofs.public.Spelling.{none_shorter_lem}
use Rattle.avro_zigzag.proofs.laws.none_shorter.Goals as goal

pub returns : goal.returns
returns c = none_shorter_lem
