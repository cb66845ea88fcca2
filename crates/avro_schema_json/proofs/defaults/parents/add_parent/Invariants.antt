use Rattle.avro_schema_json.proofs.Words.{◌≡◌}
use Rattle.avro_schema_json.proofs.defaults.parents.add_parent.Given as goal

abbrev pub invariant-loop-i : goal.invariant-loop-i
invariant-loop-i l = l.words.items ≡ l.initial.words.items
