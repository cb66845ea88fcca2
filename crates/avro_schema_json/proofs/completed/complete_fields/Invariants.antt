use Rattle.avro_schema_json.proofs.Words.{◌≡◌, ◌++◌, into_iter_items, seen_fields, data_seen, fields_with_defaults, raw_fields_of}
use Rattle.avro_schema_json.proofs.completed.complete_fields.Given as goal

abbrev pub invariant-loop-field : goal.invariant-loop-field
invariant-loop-field l =
    seen_fields l.completed.items ++ fields_with_defaults (raw_fields_of (into_iter_items l.field-iterator)) (data_seen (into_iter_items l.rest))
    ≡ fields_with_defaults (raw_fields_of l.fn.fields.items) (data_seen l.fn.defaults.items)
