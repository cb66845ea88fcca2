use Rattle.avro_schema_json.proofs.Words.{◌≡◌, ℕ, List, ◌||◌, drop, bytes_eq, list_any, fields_seen}
use Rattle.std.specs.Prelude.{is_some}
use Rattle.indexmap.specs.IndexMap.{get_by}
use Rattle.avro_schema_json.proofs.NamesSeen.{is_named}
use Rattle.avro_schema_json.proofs.defaults.fields.names_of.Given as goal

abbrev pub invariant-loop-field : goal.invariant-loop-field
invariant-loop-field l = (name : List ℕ)
    → (is_some (get_by (λ k. bytes_eq name k.now) l.names) || list_any (is_named name) (drop l.field-index (fields_seen l.fields)))
    ≡ list_any (is_named name) (fields_seen l.fields)
