use Rattle.avro_schema_json.specs.inside.Repeats.{HasDistinctNames}
use Rattle.avro_schema_json.proofs.NodesSeen.{BeforeNode}
use Rattle.avro_schema_json.proofs.repeats.has_repeated_field.Given as goal

abbrev pub invariant-loop-i : goal.invariant-loop-i
invariant-loop-i l = BeforeNode l.raws (λ m n. HasDistinctNames n) l.i
