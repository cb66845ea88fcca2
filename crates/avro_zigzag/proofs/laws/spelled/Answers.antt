use Rattle.avro_zigzag.proofs.public.Spelling.{IsShortest-number_bytes}
use Rattle.avro_zigzag.proofs.laws.spelled.Goals as goal

pub returns : goal.returns
returns c = IsShortest-number_bytes
