use Rattle.avro_least.proofs.public.Decided.{none_errs}
use Rattle.avro_least.proofs.laws.decided_compatible.Goals as goal

pub returns : goal.returns
returns c = none_errs
