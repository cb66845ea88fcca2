-- A header that is put.
use Rattle.std.proofs.Common.{◌≡◌, ℕ, suc, ◌<◌, pos, List, [], ◌∷◌, ◌++◌, length, refl, ap, arith}
use Rattle.std.specs.Prelude.{String}
use Rattle.std.specs.declared.alloc.Global.{Global}
use Rattle.std.specs.declared.vec.Vec.{Vec}
use Rattle.avro_zigzag.specs.Number.{number_bytes}
use Rattle.avro_schema.specs.Value.{entries_count}
use Rattle.avro_cursor.specs.Encoding.{plain, plain_entries}
use Rattle.avro_binary.proofs.public.Blocks.{block-written}
use Rattle.avro_file.specs.File.{metadata_value, property_entries}
use Rattle.avro_file.specs.Parts.{properties_of}

count-entries : (es : List (String Global × Vec ℕ Global)) → length es ≡ entries_count (property_entries (properties_of es))
count-entries [] = refl
count-entries (e ∷ es) = ap suc (count-entries es)

-- a count, the entries and the end
pub metadata-written : (es : List (String Global × Vec ℕ Global)) (old : List ℕ) → 0 < length es
    → ((old ++ number_bytes (pos (length es))) ++ plain_entries (property_entries (properties_of es))) ++ 0 ∷ [] ≡ old ++ plain (metadata_value (properties_of es))
metadata-written es old some =
    block-written (entries_count (property_entries (properties_of es))) (length es) (plain_entries (property_entries (properties_of es))) old (count-entries es)
    (omega (arith, some, count-entries es))

pub no_metadata-written : (es : List (String Global × Vec ℕ Global)) (old : List ℕ) → length es ≡ 0 → old ++ 0 ∷ [] ≡ old ++ plain (metadata_value (properties_of es))
no_metadata-written [] old none = refl
no_metadata-written (e ∷ es) old none = absurd (omega arith)
