use Rattle.avro_schema_json.proofs.Words.{◌≡◌}
use Rattle.avro_schema_json.proofs.defaults.parents.put_in.Given as goal

abbrev pub invariant-loop-i : goal.invariant-loop-i
invariant-loop-i l = l.places.items ≡ l.initial.places.items
