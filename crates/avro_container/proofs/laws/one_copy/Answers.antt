use Rattle.avro_container.proofs.public.CopiedAgain.{one_copy_lem}
use Rattle.avro_container.proofs.laws.one_copy.Goals as goal

pub returns : goal.returns
returns c = one_copy_lem
