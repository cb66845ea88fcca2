-- The names of fields as they are gathered.
use Rattle.avro_schema_json.proofs.Words.{arith, ◌≡◌, ℕ, suc, ◌+◌, ◌≤◌, Bool, true, false, ◌||◌, cond, List, ◌∷◌, length, Option, Some, option_map, drop, refl, ap, sym, ◌∙◌, add-one, String, string_bytes, slice_get, bytes_eq, is_some, Global, list_any, bytes_eq-sym, FieldNode, members_view, Tree, Entry, member_keys, names_only, or-false}
use Rattle.avro_schema_json.proofs.RawSeen.{name_and_node}
use Rattle.avro_schema_json.proofs.DefaultSteps.{drop_at, field_at-found}
use Rattle.avro_schema_json.proofs.DefaultsSeen.{drop_past}

gathered : (b : Bool) (before : Option (Unit {0})) (r : Bool) → (is_some (cond b (Some tt) before) || r) ≡ (is_some before || (b || r))
gathered b before r = grind arith

-- whether a field has the name
abbrev pub is_named : List ℕ → FieldNode → Bool
is_named name f = bytes_eq name f.name

pub name_next : (fields : List FieldNode) (i : ℕ) (key : List ℕ) (id : ℕ) (before after : Option (Unit {0})) (name : List ℕ) (all : Bool)
    → Some (key, id) ≡ option_map name_and_node (slice_get fields i) → after ≡ cond (bytes_eq key name) (Some tt) before
    → (is_some before || list_any (is_named name) (drop i fields)) ≡ all → (is_some after || list_any (is_named name) (drop (i + 1) fields)) ≡ all
name_next fields i key id before after name all got put whole =
    let found = field_at-found fields i key id (slice_get fields i) refl got in
    let f = found.0 in
    let here : drop i fields ≡ f ∷ drop (suc i) fields = drop_at fields i f found.1.at in
    let same : bytes_eq key name ≡ bytes_eq name f.name = bytes_eq-sym key name ∙ ap (bytes_eq name) (sym found.1.named) in
    let w = rw here at whole in
    rw (put, same, add-one) (gathered (bytes_eq name f.name) before (list_any (is_named name) (drop (suc i) fields)) ∙ w)

pub names_end : (fields : List FieldNode) (i : ℕ) (here : Bool) (name : List ℕ) (all : Bool) → length fields ≤ i
    → (here || list_any (is_named name) (drop i fields)) ≡ all → here ≡ all
names_end fields i here name all past whole = grind (arith, drop_past, or-false)

-- ---- keys that are looked up

pub key_named : (fields : List FieldNode) (before left : List Entry) (key : String Global) (x : Tree) (here all : Bool) → before ≡ (key, x) ∷ left
    → here ≡ list_any (is_named (string_bytes key)) fields → all ≡ names_only (member_keys (members_view before)) fields → here ≡ true
    → all ≡ names_only (member_keys (members_view left)) fields
key_named fields before left key x here all step is whole passes = grind arith

pub key_unnamed : (fields : List FieldNode) (before left : List Entry) (key : String Global) (x : Tree) (here all : Bool) → before ≡ (key, x) ∷ left
    → here ≡ list_any (is_named (string_bytes key)) fields → all ≡ names_only (member_keys (members_view before)) fields → here ≡ false → false ≡ all
key_unnamed fields before left key x here all step is whole none = grind arith
