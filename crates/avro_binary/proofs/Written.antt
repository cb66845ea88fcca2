-- What is in the output after an array or a map is written.
use Rattle.std.proofs.Common.{◌≡◌, ℕ, suc, ◌<◌, pos, List, [], ◌∷◌, ◌++◌, length, refl, sym, ap, ◌∙◌, arith}
use Rattle.std.specs.Prelude.{String}
use Rattle.std.specs.Global.{Box}
use Rattle.std.specs.declared.alloc.Global.{Global}
use Rattle.avro_zigzag.specs.Number.{number_bytes}
use Rattle.avro_schema.specs.Value.{Value, values_count, entries_count}
use Rattle.avro_schema.specs.Seen.{value_of, values_of, entries_of, view_step}
use Rattle.avro_schema.specs.declared.datum.Datum.{Datum}
use Rattle.avro_schema.specs.declared.datum.Datum.TheOpen.{Datum-F}
use Rattle.avro_schema.specs.declared.datum.Datum.TheViews as view
use Rattle.avro_schema.specs.declared.datum.Datum.TheVariants as variants
use Rattle.avro_schema.specs.declared.datum.Datum.TheFolds.{fold-roll-Datum}
use Rattle.avro_cursor.specs.Encoding.{plain, plain_values, plain_entries}
use Rattle.avro_binary.proofs.public.Blocks.{block-written}

values_count-length : (ds : List Datum) → length ds ≡ values_count (values_of ds)
values_count-length [] = refl
values_count-length (d ∷ ds) = ap suc (values_count-length ds)

entries_count-length : (es : List (String Global × Datum)) → length es ≡ entries_count (entries_of es)
entries_count-length [] = refl
entries_count-length (e ∷ es) = ap suc (entries_count-length es)

pub array-written : (ds : List Datum) (old : List ℕ) → 0 < length ds
    → ((old ++ number_bytes (pos (length ds))) ++ plain_values (values_of ds)) ++ 0 ∷ [] ≡ old ++ plain (Value.array (values_of ds))
array-written ds old h =
    block-written (values_count (values_of ds)) (length ds) (plain_values (values_of ds)) old (values_count-length ds) (omega (arith, values_count-length ds))

pub empty_array-written : (ds : List Datum) (old : List ℕ) → length ds ≡ 0 → old ++ 0 ∷ [] ≡ old ++ plain (Value.array (values_of ds))
empty_array-written [] old h = refl
empty_array-written (d ∷ ds) old h = absurd (omega arith)

pub map-written : (es : List (String Global × Datum)) (old : List ℕ) → 0 < length es
    → ((old ++ number_bytes (pos (length es))) ++ plain_entries (entries_of es)) ++ 0 ∷ [] ≡ old ++ plain (Value.map_of (entries_of es))
map-written es old h =
    block-written (entries_count (entries_of es)) (length es) (plain_entries (entries_of es)) old (entries_count-length es) (omega (arith, entries_count-length es))

pub empty_map-written : (es : List (String Global × Datum)) (old : List ℕ) → length es ≡ 0 → old ++ 0 ∷ [] ≡ old ++ plain (Value.map_of (entries_of es))
empty_map-written [] old h = refl
empty_map-written (e ∷ es) old h = absurd (omega arith)

-- how a union is seen
pub value_of-Union : (k : ℕ) (v : Box Datum) → value_of (view.Union k v) ≡ Value.union k (value_of v.value)
value_of-Union k v = ap value_of (sym (variants.rolls-Union k v)) ∙ fold-roll-Datum Value view_step (Datum-F.Union k v)
