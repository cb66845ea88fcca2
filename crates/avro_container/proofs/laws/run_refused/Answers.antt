use Rattle.avro_container.proofs.StepLaws.{run_refused_lem}
use Rattle.avro_container.proofs.laws.run_refused.Goals as goal

pub returns : goal.returns
returns g c = λ input job limits. run_refused_lem job limits (g.I.Input.ended input)
