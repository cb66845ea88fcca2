use Rattle.avro_schema.proofs.public.Parts.{size-part}
use Rattle.avro_schema.proofs.laws.parts_are_smaller.Goals as goal

pub returns : goal.returns
returns c = λ part whole is. size-part is
