use Rattle.avro_schema_json.proofs.Words.{◌≡◌, ℕ, ◌<◌, Some, FieldNode, all_without_defaults, fields_seen, IsField, KeepsLabels, KeepsParents}
use Rattle.std.specs.Prelude.{slice_get}
use Rattle.avro_schema_json.proofs.defaults.edges.put_fields.Given as goal

abbrev pub invariant-loop-field : goal.invariant-loop-field
invariant-loop-field l =
    KeepsParents l.initial.parents l.parents × KeepsLabels l.initial.labels l.labels
    × ((k : ℕ) (f : FieldNode) → k < l.field-index → slice_get (fields_seen l.fields) k ≡ Some f
    → IsField (all_without_defaults l.raws) l.last l.labels l.parents f l.parent)
