use Rattle.avro_certificate.proofs.LeastPairs.{closed_holds}
use Rattle.avro_certificate.proofs.laws.reached_pairs_are_least.Goals as goal

pub returns : goal.returns
returns c = closed_holds
