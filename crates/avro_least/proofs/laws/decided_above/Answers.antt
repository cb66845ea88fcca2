use Rattle.avro_least.proofs.public.Decided.{only_above}
use Rattle.avro_least.proofs.laws.decided_above.Goals as goal

pub returns : goal.returns
returns c = only_above
