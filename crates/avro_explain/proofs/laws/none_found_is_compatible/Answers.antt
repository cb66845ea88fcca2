use Rattle.avro_explain.proofs.NothingFound.{none_compatible}
use Rattle.avro_explain.proofs.laws.none_found_is_compatible.Goals as goal

pub returns : goal.returns
returns c = none_compatible
