use Rattle.avro_certificate.proofs.public.Resolving.{closed_compatible}
use Rattle.avro_certificate.proofs.laws.closed_is_compatible.Goals as goal

pub returns : goal.returns
returns c = closed_compatible
