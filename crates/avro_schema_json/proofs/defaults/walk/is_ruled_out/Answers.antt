use Rattle.avro_schema_json.proofs.Words.{arith, ◌≡◌, Bool, true, false, not}
use Rattle.avro_schema_json.proofs.WalkSeen.{not-fit}
use Rattle.avro_schema_json.proofs.defaults.walk.is_ruled_out.Goals as goal

is-false : (b : Bool) → not b ≡ true → b ≡ false
is-false b h = grind arith

pub returns-in-Some-row_of : goal.returns-in-Some-row_of
returns-in-Some-row_of c = grind (arith, is-false, not-fit)
