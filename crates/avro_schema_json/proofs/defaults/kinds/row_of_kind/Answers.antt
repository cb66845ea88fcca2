use Rattle.avro_schema_json.proofs.KindsSeen.{in_row, in_none}
use Rattle.avro_schema_json.proofs.defaults.kinds.row_of_kind.Goals as goal

pub returns-in-Some : goal.returns-in-Some
returns-in-Some c = λ p has. in_row _ c.in-Some.row.now p c.in-Some.ensures.value has

pub returns-in-None : goal.returns-in-None
returns-in-None c = λ p has. absurd (in_none _ p c.in-None.ensures.value has)
