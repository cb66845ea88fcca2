use Rattle.avro_least.proofs.public.Decided.{least_deep}
use Rattle.avro_least.proofs.laws.decided_deep.Goals as goal

pub returns : goal.returns
returns c = least_deep
