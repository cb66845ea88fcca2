-- Data at an index.
use Rattle.std.proofs.Common.{◌≡◌, ℕ, zero, suc, ◌<◌, ◌≤◌, List, [], ◌∷◌, length, Some, refl, ap, arith}
use Rattle.std.specs.Prelude.{String, get_or, slice_get, string_bytes}
use Rattle.std.specs.declared.alloc.Global.{Global}
use Rattle.avro_schema.specs.Node.{Node, FieldNode, node_at}
use Rattle.avro_schema.specs.Seen.{entries_of, value_of, values_of}
use Rattle.avro_schema.specs.Value.{depth, entries_count, entries_depth, keys_of, values_count, values_depth}
use Rattle.avro_schema.specs.declared.datum.Datum.{Datum}
use Rattle.avro_compare.specs.Resolve.{fields_at}
use Rattle.avro_display.specs.Table.{entry_at, value_at}
use Rattle.avro_show.specs.Showing.{default_depth, defaults_depth, fields_depth}

pub value_there : (xs : List Datum) (k : ℕ) (x : Datum) → k < length xs → x ≡ get_or xs k x
    → (k < values_count (values_of xs)) × (value_at (values_of xs) k ≡ value_of x) × (depth (value_of x) ≤ values_depth (values_of xs))
value_there [] k x low e = grind arith
value_there (y ∷ xs) zero x low e = grind arith
value_there (y ∷ xs) (suc k) x low e = grind (arith, value_there xs k x)

pub count_values : (xs : List Datum) → values_count (values_of xs) ≡ length xs
count_values [] = refl
count_values (x ∷ xs) = ap suc (count_values xs)

pub entry_there : (xs : List (String Global × Datum)) (k : ℕ) (x : String Global × Datum) → k < length xs → x ≡ get_or xs k x
    → (k < entries_count (entries_of xs)) × (entry_at (entries_of xs) k ≡ value_of x.1) × (depth (value_of x.1) ≤ entries_depth (entries_of xs))
    × (slice_get (keys_of (entries_of xs)) k ≡ Some (string_bytes x.0))
entry_there [] k x low e = grind arith
entry_there (y ∷ xs) zero x low e = grind arith
entry_there (y ∷ xs) (suc k) x low e = grind (arith, entry_there xs k x)

-- ---- Defaults

field_depth : (fs : List FieldNode) (i : ℕ) (f : FieldNode) → slice_get fs i ≡ Some f → default_depth f ≤ fields_depth fs
field_depth [] i f e = grind arith
field_depth (g ∷ fs) zero f e = grind arith
field_depth (g ∷ fs) (suc i) f e = grind (arith, field_depth fs i f)

-- a default is within the depths of all
pub default_within : (nodes : List Node) (k i : ℕ) (f : FieldNode) → slice_get (fields_at (node_at nodes k)) i ≡ Some f → default_depth f ≤ defaults_depth nodes
default_within [] k i f e = grind arith
default_within (n ∷ nodes) zero i f e = grind (arith, field_depth (fields_at n) i f)
default_within (n ∷ nodes) (suc k) i f e = grind (arith, default_within nodes k i f)
