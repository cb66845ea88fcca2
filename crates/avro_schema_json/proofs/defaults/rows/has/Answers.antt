use Rattle.avro_schema_json.proofs.Words.{arith, shr_and_one}
use Rattle.avro_schema_json.proofs.defaults.rows.has.Goals as goal

pub returns : goal.returns
returns c = grind (arith, shr_and_one)
