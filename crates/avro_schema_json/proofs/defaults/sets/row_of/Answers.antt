use Rattle.avro_schema_json.proofs.Words.{arith, slice_get_read}
use Rattle.avro_schema_json.proofs.defaults.sets.row_of.Goals as goal

pub returns-in-Some : goal.returns-in-Some
returns-in-Some c = grind (arith, slice_get_read)
