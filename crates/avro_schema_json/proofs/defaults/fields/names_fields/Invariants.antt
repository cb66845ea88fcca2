use Rattle.avro_schema_json.proofs.Words.{◌≡◌, member_keys, names_only, fields_seen, members_view}
use Rattle.avro_schema_json.proofs.defaults.fields.names_fields.Given as goal

abbrev pub invariant-loop-key : goal.invariant-loop-key
invariant-loop-key l =
    names_only (member_keys (members_view l.members.entries)) (fields_seen l.fields) ≡ names_only (member_keys (members_view l.key-iterator)) (fields_seen l.fields)
