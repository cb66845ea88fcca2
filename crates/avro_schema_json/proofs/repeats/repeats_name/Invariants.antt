use Rattle.avro_schema_json.proofs.Words.{drop, AreFieldsDistinct, fields_seen}
use Rattle.avro_schema_json.proofs.RepeatsSeen.{AreFieldNames, AreNew}
use Rattle.avro_schema_json.proofs.repeats.repeats_name.Given as goal

abbrev pub invariant-loop-i : goal.invariant-loop-i
invariant-loop-i l =
    AreFieldNames (fields_seen l.fields) l.names l.i × (AreNew l.names (drop l.i (fields_seen l.fields)) → AreFieldsDistinct (fields_seen l.fields))
