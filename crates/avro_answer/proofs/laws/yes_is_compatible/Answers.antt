use Rattle.avro_answer.proofs.TextLaws.{yes_compatible}
use Rattle.avro_answer.proofs.laws.yes_is_compatible.Goals as goal

pub returns : goal.returns
returns c = yes_compatible
