use Rattle.avro_answer.proofs.TextLaws.{confirmed_compatible}
use Rattle.avro_answer.proofs.laws.confirmed_is_compatible.Goals as goal

pub returns : goal.returns
returns c = confirmed_compatible c.declared_is_schema.ensures
