-- How the program's nodes and fields are seen before their defaults are read.
use Rattle.avro_schema_json.proofs.Words.{arith, ◌≡◌, ℕ, ◌<◌, ◌≤◌, List, length, Some, option_map, get_or, map, refl, ap, ◌∙◌, sym, slice_get, string_bytes, length-map, slice_get-map, slice_get_read, FieldNode, field_without_default, fields_seen, raw_fields_of, KeptField as RawField}

-- the name and the node of a field
abbrev pub name_and_node : FieldNode → List ℕ × ℕ
name_and_node f = (f.name, f.node)

raw_field_at : (fs : List RawField) (i : ℕ)
    → option_map {U = List ℕ × ℕ} (λ f. (string_bytes f.name, f.node.0)) (slice_get fs i) ≡ option_map name_and_node (slice_get (map field_without_default (raw_fields_of fs)) i)
raw_field_at fs i = grind (arith, slice_get-map)

-- the field of an index, by its name
pub field_item : (fs : List RawField) (i : ℕ) (f : RawField) (name : List ℕ) → i < length fs → f ≡ get_or fs i f → name ≡ string_bytes f.name
    → Some (name, f.node.0) ≡ option_map name_and_node (slice_get (fields_seen fs) i)
field_item fs i f name below at named =
    let found = slice_get_read fs (length fs) i f refl below at in
    rw named (ap (option_map {U = List ℕ × ℕ} (λ g. (string_bytes g.name, g.node.0))) (sym found) ∙ raw_field_at fs i)

-- no field is left
pub fields_past : (fs : List RawField) (i : ℕ) → length fs ≤ i → length (fields_seen fs) ≤ i
fields_past fs i past = let count : length (fields_seen fs) ≡ length fs = simp length-map in rw count past
