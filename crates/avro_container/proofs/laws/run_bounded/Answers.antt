use Rattle.avro_container.proofs.StepLaws.{run_bounded_lem}
use Rattle.avro_container.proofs.laws.run_bounded.Goals as goal

pub returns : goal.returns
returns g c = λ input job limits. run_bounded_lem job limits (g.I.Input.ended input)
