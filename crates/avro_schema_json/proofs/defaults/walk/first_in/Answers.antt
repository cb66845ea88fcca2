use Rattle.avro_schema_json.proofs.Words.{arith}
use Rattle.avro_schema_json.proofs.WalkSeen.{none-next}
use Rattle.avro_schema_json.proofs.defaults.walk.first_in.Goals as goal

pub loop-i-init : goal.loop-i-init
loop-i-init c = λ j id below at. absurd (omega (arith, below))

pub loop-i-preserved : goal.loop-i-preserved
loop-i-preserved c = grind (arith, none-next)

pub returns : goal.returns
returns c = λ j id below at. c.loop-i.invariant j id (omega (arith, below, c.loop-i-test.false)) at
