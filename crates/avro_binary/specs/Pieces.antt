-- The encodings of a record's fields, one after another at the front of bytes.
use Rattle.std.specs.Prelude.{◌≡◌, ◌-◌, ℕ, suc, List, Some, slice_get, slice_index, take, drop}
use Rattle.avro_schema.specs.Value.{Value}
use Rattle.avro_cursor.specs.Encoding.{Spells}

-- the bytes of a field by its index: from one end to the next
abbrev pub piece : List ℕ → List ℕ → ℕ → List ℕ
piece bytes ends k = take (slice_index ends (suc k) - slice_index ends k) (drop (slice_index ends k) bytes)

-- each value is spelled by the bytes of its field
abbrev pub ArePieces : List Value → List ℕ → List ℕ → Type 0
ArePieces vs bytes ends = (k : ℕ) (v : Value) → slice_get vs k ≡ Some v → Spells v (piece bytes ends k)
