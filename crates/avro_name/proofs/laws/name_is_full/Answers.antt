use Rattle.avro_name.proofs.Dots.{name_is_full_lem}
use Rattle.avro_name.proofs.laws.name_is_full.Goals as goal

pub returns : goal.returns
returns c = name_is_full_lem
