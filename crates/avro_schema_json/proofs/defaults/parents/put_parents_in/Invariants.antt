use Rattle.avro_schema_json.proofs.ParentsSeen.{AreAdded}
use Rattle.avro_schema_json.proofs.defaults.parents.put_parents_in.Given as goal

abbrev pub invariant-loop-place : goal.invariant-loop-place
invariant-loop-place l = AreAdded l.places l.among l.initial.row.words l.row.words l.place-index
