use Rattle.avro_container.proofs.StepLaws.{Done-run}
use Rattle.avro_container.proofs.laws.run_copies.Goals as goal

pub returns : goal.returns
returns c = Done-run
