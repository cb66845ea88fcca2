use Rattle.avro_migration.proofs.Unresolved.{read_resolves_lem}
use Rattle.avro_migration.proofs.laws.read_resolves.Goals as goal

pub returns : goal.returns
returns c = read_resolves_lem
