use Rattle.avro_zigzag.proofs.public.Spelling.{one_spelling_lem}
use Rattle.avro_zigzag.proofs.laws.one_spelling.Goals as goal

pub returns : goal.returns
returns c = λ most more v w a b x y s t e. one_spelling_lem v w a b x y s t e
