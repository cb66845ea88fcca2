use Rattle.avro_schema_json.proofs.Words.{ids_of, HasNoneBefore}
use Rattle.avro_schema_json.proofs.defaults.walk.first_in.Given as goal

abbrev pub invariant-loop-i : goal.invariant-loop-i
invariant-loop-i l = HasNoneBefore l.last l.row.words (ids_of l.ids) l.i
