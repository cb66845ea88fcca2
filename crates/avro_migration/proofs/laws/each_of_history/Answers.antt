use Rattle.avro_migration.proofs.Unresolved.{each_of_history_lem}
use Rattle.avro_migration.proofs.laws.each_of_history.Goals as goal

pub returns : goal.returns
returns c = each_of_history_lem
