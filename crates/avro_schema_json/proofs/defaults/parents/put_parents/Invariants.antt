use Rattle.avro_schema_json.proofs.ParentsSeen.{AreWordsAdded}
use Rattle.avro_schema_json.proofs.defaults.parents.put_parents.Given as goal

abbrev pub invariant-loop-word : goal.invariant-loop-word
invariant-loop-word l = AreWordsAdded l.words l.initial.row.words l.row.words l.word-index
