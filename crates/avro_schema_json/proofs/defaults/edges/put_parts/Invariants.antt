use Rattle.avro_schema_json.proofs.Words.{◌≡◌, ℕ, ◌<◌, Some, ids_of, place_of, KeepsParents, has_parent_of}
use Rattle.std.specs.Prelude.{slice_get}
use Rattle.avro_schema_json.proofs.defaults.edges.put_parts.Given as goal

abbrev pub invariant-loop-id : goal.invariant-loop-id
invariant-loop-id l =
    KeepsParents l.initial.parents l.parents
    × ((k y : ℕ) → k < l.id-index → slice_get (ids_of l.ids) k ≡ Some y → has_parent_of l.parents (place_of l.last y) l.label l.parent)
