use Rattle.avro_schema_json.proofs.ParentsSeen.{IsGathered}
use Rattle.avro_schema_json.proofs.defaults.parents.parents_of_row.Given as goal

abbrev pub invariant-loop-word : goal.invariant-loop-word
invariant-loop-word l = IsGathered l.parents l.fn.label l.word-iterator l.row.words l.found.words
