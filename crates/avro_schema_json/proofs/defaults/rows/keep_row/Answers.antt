use Rattle.std.proofs.Common.{arith}
use Rattle.avro_schema_json.proofs.RowsSeen.{and-within}
use Rattle.avro_schema_json.proofs.defaults.rows.keep_row.Goals as goal

pub returns : goal.returns
returns c = grind (arith, and-within)
