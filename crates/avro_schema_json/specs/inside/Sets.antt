-- The rows of sets, by their numbers.
use Rattle.std.specs.Prelude.{◌≡◌, ℕ, List, Option, Some, option_map, slice_get}
use Rattle.avro_schema_json.specs.declared.defaults.sets.Sets.{Sets}

abbrev pub row_at : Sets → ℕ → Option (List ℕ)
row_at sets n = option_map (λ b. b.value.words) (slice_get sets.rows.items n)

abbrev pub KeepsRows : Sets → Sets → Type 0
KeepsRows before after = (n : ℕ) (row : List ℕ) → row_at before n ≡ Some row → row_at after n ≡ Some row
