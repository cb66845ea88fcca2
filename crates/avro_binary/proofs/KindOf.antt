-- The data of a node, by the node's kind.
use Rattle.std.proofs.Common.{◌≡◌, ℕ, true, List, Option, Some, refl, subst}
use Rattle.std.specs.Prelude.{length, slice_get, nat_lt, ◌==◌, bytes_eq}
use Rattle.std.specs.List.{list_all}
use Rattle.avro_name.specs.Name.{Name}
use Rattle.avro_schema.specs.Value.{Value, Values, Entries, values_count, keys_of}
use Rattle.avro_schema.specs.Node.{Node, FieldNode, node_at, symbols_of, fixed_length, field_ids}
use Rattle.avro_schema.specs.Fits.{fits, each_fits, entries_fit, fields_fit, is_count, are_bytes, is_text}
use Rattle.avro_schema.specs.Distinct.{are_distinct}
use Rattle.avro_schema.proofs.public.FitsKind.{FitsKind, FitsKind-from_fits}

-- the kind of a datum, seen at a node that is the same
pub kind_at : (nodes : List Node) (n m : Node) (v : Value) → n ≡ m → fits nodes n v ≡ true → FitsKind nodes m v
kind_at nodes n m v e h = subst (λ (k : Node). FitsKind nodes k v) e (FitsKind-from_fits nodes n v h)

pub bytes_value : (nodes : List Node) (v : Value) → FitsKind nodes Node.bytes v → (b : List ℕ) × (v ≡ Value.bytes b) × (are_bytes b ≡ true)
bytes_value nodes (Value.bytes b) k = (b, refl, k.1)
bytes_value nodes _ k = absurd cc

pub string_value : (nodes : List Node) (v : Value) → FitsKind nodes Node.string v → (t : List ℕ) × (v ≡ Value.string t) × (is_text t ≡ true)
string_value nodes (Value.string t) k = (t, refl, k.1)
string_value nodes _ k = absurd cc

pub array_value : (nodes : List Node) (id : ℕ) (v : Value) → FitsKind nodes (Node.array id) v
    → (vs : Values) × (v ≡ Value.array vs) × (is_count (values_count vs) ≡ true) × (each_fits nodes (node_at nodes id) vs ≡ true)
array_value nodes id (Value.array vs) k =
    let same : k.id ≡ id = let e = k.is_array in cc in
    (vs, refl, k.counted, subst (λ (p : ℕ). each_fits nodes (node_at nodes p) vs ≡ true) same k.fitting)
array_value nodes id _ k = absurd cc

pub map_value : (nodes : List Node) (id : ℕ) (v : Value) → FitsKind nodes (Node.map_of id) v
    → (es : Entries) × (v ≡ Value.map_of es) × (list_all is_text (keys_of es) ≡ true) × (are_distinct bytes_eq (keys_of es) ≡ true)
    × (entries_fit nodes (node_at nodes id) es ≡ true)
map_value nodes id (Value.map_of es) k =
    let same : k.id ≡ id = let e = k.is_map in cc in
    (es, refl, k.texts, k.distinct, subst (λ (p : ℕ). entries_fit nodes (node_at nodes p) es ≡ true) same k.fitting)
map_value nodes id _ k = absurd cc

pub union_value : (nodes : List Node) (ids : List ℕ) (v : Value) → FitsKind nodes (Node.union ids) v
    → (k : ℕ) × (u : Value) × (id : ℕ) × (v ≡ Value.union k u) × (slice_get ids k ≡ Some id) × (fits nodes (node_at nodes id) u ≡ true)
union_value nodes ids (Value.union k u) h =
    let same : h.ids ≡ ids = let e = h.is_union in cc in
    (k, u, h.id, refl, subst (λ (ps : List ℕ). slice_get ps k ≡ Some h.id) same h.is_branch, h.fitting)
union_value nodes ids _ h = absurd cc

pub record_value : (nodes : List Node) (name : Name) (aliases : List Name) (fields : List FieldNode) (v : Value)
    → FitsKind nodes (Node.record_of name aliases fields) v → (vs : Values) × (v ≡ Value.record_of vs) × (fields_fit nodes (field_ids fields) vs ≡ true)
record_value nodes name aliases fields (Value.record_of vs) k =
    let same : k.fields ≡ fields = let e = k.is_record in cc in
    (vs, refl, subst (λ (fs : List FieldNode). fields_fit nodes (field_ids fs) vs ≡ true) same k.fitting)
record_value nodes name aliases fields _ k = absurd cc

pub enum_value : (nodes : List Node) (name : Name) (aliases : List Name) (symbols : List (List ℕ)) (default : Option ℕ) (v : Value)
    → FitsKind nodes (Node.enum name aliases symbols default) v → (k : ℕ) × (v ≡ Value.enum k) × (nat_lt k (length symbols) ≡ true)
enum_value nodes name aliases symbols default (Value.enum k) h =
    let same : h.0 ≡ symbols = let e = h.1 in cc in
    (k, refl, subst (λ (s : List (List ℕ)). nat_lt k (length s) ≡ true) same h.2)
enum_value nodes name aliases symbols default _ h = absurd cc

pub fixed_value : (nodes : List Node) (name : Name) (aliases : List Name) (count : ℕ) (v : Value)
    → FitsKind nodes (Node.fixed name aliases count) v → (b : List ℕ) × (v ≡ Value.fixed b) × ((length b == count) ≡ true)
fixed_value nodes name aliases count (Value.fixed b) h =
    let same : h.1 ≡ count = let e = h.2 in cc in
    (b, refl, subst (λ (c : ℕ). (length b == c) ≡ true) same h.3)
fixed_value nodes name aliases count _ h = absurd cc

-- the node that has symbols, or a length
pub enum-from_symbols_of : (n : Node) (symbols : List (List ℕ)) → symbols_of n ≡ Some symbols
    → (name : Name) × (aliases : List Name) × (default : Option ℕ) × (n ≡ Node.enum name aliases symbols default)
enum-from_symbols_of (Node.enum name aliases s default) symbols h = (name, aliases, default, cc)
enum-from_symbols_of _ symbols h = absurd cc

pub fixed-from_fixed_length : (n : Node) (count : ℕ) → fixed_length n ≡ Some count
    → (name : Name) × (aliases : List Name) × (n ≡ Node.fixed name aliases count)
fixed-from_fixed_length (Node.fixed name aliases c) count h = (name, aliases, cc)
fixed-from_fixed_length _ count h = absurd cc
