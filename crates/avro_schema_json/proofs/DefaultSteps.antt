-- One step of reading the defaults of items, of entries and of fields.
use Rattle.avro_schema_json.proofs.Words.{arith, ◌≡◌, ℕ, zero, suc, ◌+◌, ◌<◌, ◌≤◌, List, [], ◌∷◌, ◌++◌, length, Option, Some, None, option_map, option_and_then, get_or, drop, refl, ap, ◌∙◌, sym, add-one, String, string_bytes, slice_get, Global, drop_more, Node, FieldNode, node_at, value_of, values_of, Value, Values, Entries, Data, get_member, view, items_view, members_view, Tree, Entry, default_of, default_under, each_default, entries_default, fields_default}
use Rattle.avro_schema.specs.declared.datum.Datum.{Datum}
use Rattle.avro_schema_json.proofs.RawSeen.{name_and_node}
use Rattle.avro_schema_json.proofs.DeclarationLaws.{default_under-found}
use Rattle.avro_schema_json.proofs.DefaultsSeen.{drop_past, after_values, after_entries, value_step, value_stop, values_end, entry_step}

-- ---- items

pub item_next : (nodes : List Node) (n : Node) (xs : List Tree) (i : ℕ) (x : Tree) (all : Option Values) (done : List Datum) (d : Datum)
    → i < length xs → x ≡ get_or xs i x → option_map (after_values done) (each_default nodes (items_view (drop i xs)) n) ≡ all
    → Some (value_of d) ≡ default_of nodes (view x) n
    → option_map (after_values (done ++ d ∷ [])) (each_default nodes (items_view (drop (i + 1) xs)) n) ≡ all
item_next nodes n xs i x all done d below at whole is =
    let here : drop i xs ≡ x ∷ drop (i + 1) xs = drop_more xs i x below ∙ ap (λ y. y ∷ drop (i + 1) xs) (sym at) in
    value_step all done d (default_of nodes (view x) n) (each_default nodes (items_view (drop (i + 1) xs)) n) (rw here at whole) is

pub items_end : (nodes : List Node) (n : Node) (xs : List Tree) (i : ℕ) (all : Option Values) (done : List Datum)
    → length xs ≤ i → option_map (after_values done) (each_default nodes (items_view (drop i xs)) n) ≡ all → Some (values_of done) ≡ all
items_end nodes n xs i all done past whole =
    let none : drop i xs ≡ [] = drop_past xs i past in
    values_end all done (each_default nodes (items_view (drop i xs)) n) whole (rw none refl)

-- ---- entries

pub entry_next : (nodes : List Node) (n : Node) (before left : List Entry) (key copy : String Global) (x : Tree) (all : Option Entries)
    (done : List (String Global × Datum)) (d : Datum)
    → before ≡ (key, x) ∷ left → string_bytes copy ≡ string_bytes key
    → option_map (after_entries done) (entries_default nodes (members_view before) n) ≡ all → Some (value_of d) ≡ default_of nodes (view x) n
    → option_map (after_entries (done ++ (copy, d) ∷ [])) (entries_default nodes (members_view left) n) ≡ all
entry_next nodes n before left key copy x all done d step same whole is =
    let w = rw (step, ← same) at whole in
    entry_step all done copy d (default_of nodes (view x) n) (entries_default nodes (members_view left) n) w is

-- ---- fields

pub drop_at : (fields : List FieldNode) (i : ℕ) (f : FieldNode) → slice_get fields i ≡ Some f → drop i fields ≡ f ∷ drop (suc i) fields
drop_at [] i f h = cc
drop_at (g ∷ fields) zero f h = let same : g ≡ f = cc in rw same refl
drop_at (g ∷ fields) (suc i) f h = drop_at fields i f h

-- the fields from an index on
abbrev pub fields_left : List Node → List Entry → List FieldNode → Option Values
fields_left nodes es fields = fields_default nodes (λ key. default_under nodes key (members_view es)) fields

-- the default of a field
abbrev pub first_default : List Node → List Entry → FieldNode → Option Value
first_default nodes es f = option_and_then (λ read. read (node_at nodes f.node)) (default_under nodes f.name (members_view es))

first_default-found : (nodes : List Node) (es : List Entry) (f : FieldNode) (x : Data) → get_member f.name (members_view es) ≡ Some x
    → first_default nodes es f ≡ default_of nodes x (node_at nodes f.node)
first_default-found nodes es f x h = rw (default_under-found nodes f.name (members_view es), h) refl

first_default-none : (nodes : List Node) (es : List Entry) (f : FieldNode) → get_member f.name (members_view es) ≡ None → first_default nodes es f ≡ None
first_default-none nodes es f h = rw (default_under-found nodes f.name (members_view es), h) refl

-- a field at an index
pub record IsFieldAt (fields : List FieldNode) (i : ℕ) (name : List ℕ) (id : ℕ) (f : FieldNode) : Type 0 where
  pub at : slice_get fields i ≡ Some f
  pub named : f.name ≡ name
  pub node_is : f.node ≡ id

pub field_at-found : (fields : List FieldNode) (i : ℕ) (name : List ℕ) (id : ℕ) (found : Option FieldNode) → slice_get fields i ≡ found
    → Some (name, id) ≡ option_map name_and_node found → (f : FieldNode) × IsFieldAt fields i name id f
field_at-found fields i name id found is h = grind arith

pub field_next : (nodes : List Node) (es : List Entry) (fields : List FieldNode) (i : ℕ) (name : List ℕ) (id : ℕ) (x : Data) (all : Option Values)
    (done : List Datum) (d : Datum)
    → Some (name, id) ≡ option_map name_and_node (slice_get fields i) → Some x ≡ get_member name (members_view es)
    → option_map (after_values done) (fields_left nodes es (drop i fields)) ≡ all → Some (value_of d) ≡ default_of nodes x (node_at nodes id)
    → option_map (after_values (done ++ d ∷ [])) (fields_left nodes es (drop (i + 1) fields)) ≡ all
field_next nodes es fields i name id x all done d got member whole is =
    let found = field_at-found fields i name id (slice_get fields i) refl got in
    let f = found.0 in
    let here : drop i fields ≡ f ∷ drop (suc i) fields = drop_at fields i f found.1.at in
    let under : get_member f.name (members_view es) ≡ Some x = rw found.1.named (sym member) in
    let first : Some (value_of d) ≡ first_default nodes es f = is ∙ ap (λ p. default_of nodes x (node_at nodes p)) (sym found.1.node_is) ∙ sym (first_default-found nodes es f x under) in
    rw add-one (value_step all done d (first_default nodes es f) (fields_left nodes es (drop (suc i) fields)) (rw here at whole) first)

pub field_stop : (nodes : List Node) (es : List Entry) (fields : List FieldNode) (i : ℕ) (name : List ℕ) (id : ℕ) (x : Data) (all : Option Values) (done : List Datum)
    → Some (name, id) ≡ option_map name_and_node (slice_get fields i) → Some x ≡ get_member name (members_view es)
    → option_map (after_values done) (fields_left nodes es (drop i fields)) ≡ all → None ≡ default_of nodes x (node_at nodes id) → None ≡ all
field_stop nodes es fields i name id x all done got member whole is = grind (arith, drop_at, field_at-found, first_default-found, value_stop)

pub field_missing : (nodes : List Node) (es : List Entry) (fields : List FieldNode) (i : ℕ) (name : List ℕ) (id : ℕ) (all : Option Values) (done : List Datum)
    → Some (name, id) ≡ option_map name_and_node (slice_get fields i) → None ≡ get_member name (members_view es)
    → option_map (after_values done) (fields_left nodes es (drop i fields)) ≡ all → None ≡ all
field_missing nodes es fields i name id all done got member whole = grind (arith, drop_at, field_at-found, first_default-none, value_stop)

pub fields_end : (nodes : List Node) (es : List Entry) (fields : List FieldNode) (i : ℕ) (all : Option Values) (done : List Datum)
    → length fields ≤ i → option_map (after_values done) (fields_left nodes es (drop i fields)) ≡ all → Some (values_of done) ≡ all
fields_end nodes es fields i all done past whole =
    let none : drop i fields ≡ [] = drop_past fields i past in
    values_end all done (fields_left nodes es (drop i fields)) whole (rw none refl)
