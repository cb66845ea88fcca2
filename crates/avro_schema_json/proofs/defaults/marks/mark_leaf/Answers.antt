use Rattle.avro_schema_json.proofs.Words.{arith, none-some}
use Rattle.avro_schema_json.proofs.defaults.marks.mark_leaf.Goals as goal

pub returns-clause-marked : goal.returns-clause-marked
returns-clause-marked c = grind (arith, none-some)
