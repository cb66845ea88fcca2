use Rattle.avro_schema_json.proofs.Words.{◌≡◌, ◌++◌, ◌&&◌, map, drop, list_all, IfSome, field_default, is_default_read, all_without_defaults, data_seen, raw_fields_of}
use Rattle.avro_schema_json.specs.inside.Tables.{IsMarking}
use Rattle.avro_schema_json.proofs.completed.defaults_of_fields.Given as goal

abbrev pub invariant-loop-field : goal.invariant-loop-field
invariant-loop-field l =
    let nodes = all_without_defaults l.raws in
    let left = raw_fields_of (drop l.field-index l.fields) in
    (data_seen l.of_fields.items ++ map (field_default nodes) left ≡ map (field_default nodes) (raw_fields_of l.fields))
    × ((l.are_read && list_all (is_default_read nodes) left) ≡ list_all (is_default_read nodes) (raw_fields_of l.fields))
    × IfSome l.marking (IsMarking nodes)
