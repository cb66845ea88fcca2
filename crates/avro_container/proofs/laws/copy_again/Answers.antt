use Rattle.avro_container.proofs.public.CopiedAgain.{copy_again_lem}
use Rattle.avro_container.proofs.laws.copy_again.Goals as goal

pub returns : goal.returns
returns c = copy_again_lem c.prefix.ensures c.one_schema.ensures
