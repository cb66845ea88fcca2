use Rattle.avro_container.proofs.StepLaws.{run_ends_lem}
use Rattle.avro_container.proofs.laws.run_ends.Goals as goal

pub returns : goal.returns
returns g c = λ input job limits. run_ends_lem job limits (g.I.Input.ended input)
