use Rattle.avro_canonical.proofs.ReadAgain.{read_again}
use Rattle.avro_canonical.proofs.laws.read_again.Goals as goal

pub returns : goal.returns
returns c = read_again
