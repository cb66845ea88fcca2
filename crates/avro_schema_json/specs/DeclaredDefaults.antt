-- Defaults of fields: which datum their JSON is (Avro 1.11, "Complex Types", "Records"). They are read once the nodes
-- of the whole schema are known.
use Rattle.std.specs.Prelude.{ℕ, suc, ◌==◌, Bool, true, false, List, [], ◌∷◌, length, chars, bytes_eq, nat_lt, Option, Some, None, option_map, option_and_then}
use Rattle.std.specs.Option.{option_or}
use Rattle.std.specs.Ordering.{nat_cmp, match_ordering}
use Rattle.std.specs.Cmp.Lexicographic.{slice_cmp}
use Rattle.std.specs.List.{list_all, list_any}
use Rattle.avro_schema.specs.Value.{Value, Values, no_values, value, Entries, no_entries, entry}
use Rattle.avro_schema.specs.Node.{Node, FieldNode, node_at, items_node, branches_of}
use Rattle.avro_schema.specs.Fits.{is_int, is_long}
use Rattle.serde_json.specs.Data.{Num, Data, Items, no_items, item, Members, no_members, member}
use Rattle.serde_json.specs.Find.{as_i64}
use Rattle.avro_schema_json.specs.DeclaredAttributes.{symbol_index}

-- the value, where it passes
abbrev pub only_if : {A : Type 0} → Bool → A → Option A
only_if true x = Some x
only_if false x = None

-- Branches from number k on: the first of which there is a datum.
abbrev pub first_fit : List Node → (Node → Option Value) → ℕ → List ℕ → Option Value
first_fit nodes read k [] = None
first_fit nodes read k (id ∷ ids) = option_or (option_map (Value.union k) (read (node_at nodes id))) (first_fit nodes read (suc k) ids)

-- A default of a union is one of the first branch that the JSON fits.
abbrev pub by_first_fit : List Node → Node → (Node → Option Value) → Option Value
by_first_fit nodes n read = by_branches (branches_of n)
  where
    by_branches : Option (List ℕ) → Option Value
    by_branches None = read n
    by_branches (Some ids) = first_fit nodes read 0 ids

-- what null is a default of
abbrev pub null_default : Node → Option Value
null_default Node.null = Some Value.null
null_default _ = None

-- what a boolean is a default of
abbrev pub boolean_default : Bool → Node → Option Value
boolean_default b Node.boolean = Some (Value.boolean b)
boolean_default b _ = None

-- a whole number in range
abbrev pub number_default : Num → Node → Option Value
number_default x Node.int = option_and_then (λ i. only_if (is_int i) (Value.int i)) (as_i64 x)
number_default x Node.long = option_and_then (λ i. only_if (is_long i) (Value.long i)) (as_i64 x)
number_default x _ = None

-- one byte for each character of a text, whose code is the byte's value
abbrev pub bytes_of_text : List ℕ → Option (List ℕ)
bytes_of_text text = only_if (list_all (λ c. nat_lt c 256) (chars text)) (chars text)

-- what a text is a default of
abbrev pub text_default : List ℕ → Node → Option Value
text_default text Node.string = Some (Value.string text)
text_default text Node.bytes = option_map Value.bytes (bytes_of_text text)
text_default text (Node.fixed name aliases count) = option_and_then (λ b. only_if (length b == count) (Value.fixed b)) (bytes_of_text text)
text_default text (Node.enum name aliases symbols default) = option_map Value.enum (symbol_index text symbols)
text_default text _ = None

-- items, each a default of the items' node
abbrev pub items_default : List Node → (Node → Option Values) → Node → Option Value
items_default nodes read n = option_map Value.array (option_and_then (λ id. read (node_at nodes id)) (items_node n))

-- the keys of an object
abbrev pub member_keys : Members → List (List ℕ)
member_keys no_members = []
member_keys (member k d ms) = k ∷ member_keys ms

-- fields in order, each by the member of its name
abbrev pub fields_default : List Node → (List ℕ → Option (Node → Option Value)) → List FieldNode → Option Values
fields_default nodes under [] = Some no_values
fields_default nodes under (f ∷ fields) =
    option_and_then (λ v. option_map (value v) (fields_default nodes under fields))
    (option_and_then (λ read. read (node_at nodes f.node)) (under f.name))

-- the keys of the object are the names of fields
abbrev pub names_only : List (List ℕ) → List FieldNode → Bool
names_only keys fields = list_all (λ key. list_any (λ f. bytes_eq key f.name) fields) keys

-- An object is a map by its entries, or a record by a member for each field and no other.
abbrev pub object_default : List Node → (Node → Option Entries) → (List ℕ → Option (Node → Option Value)) → List (List ℕ) → Node → Option Value
object_default nodes entries under keys (Node.map_of id) = option_map Value.map_of (entries (node_at nodes id))
object_default nodes entries under keys (Node.record_of name aliases fields) =
    option_and_then (λ vs. only_if (names_only keys fields) (Value.record_of vs)) (fields_default nodes under fields)
object_default nodes entries under keys _ = None

-- the datum of a field's default, by cases on the JSON; for a union that of the first branch that it fits
abbrev mutual
  pub default_of : List Node → Data → Node → Option Value
  default_of nodes Data.null n = by_first_fit nodes n null_default
  default_of nodes (Data.boolean b) n = by_first_fit nodes n (boolean_default b)
  default_of nodes (Data.number x) n = by_first_fit nodes n (number_default x)
  default_of nodes (Data.string text) n = by_first_fit nodes n (text_default text)
  default_of nodes (Data.array ds) n = by_first_fit nodes n (items_default nodes (λ m. each_default nodes ds m))
  default_of nodes (Data.object ms) n =
      by_first_fit nodes n (object_default nodes (λ m. entries_default nodes ms m) (λ key. default_under nodes key ms) (member_keys ms))

  -- the same of each item for one node
  pub each_default : List Node → Items → Node → Option Values
  each_default nodes no_items n = Some no_values
  each_default nodes (item d ds) n = option_and_then (λ v. option_map (value v) (each_default nodes ds n)) (default_of nodes d n)

  -- the same of each member for one node
  pub entries_default : List Node → Members → Node → Option Entries
  entries_default nodes no_members n = Some no_entries
  entries_default nodes (member k d ms) n =
      option_and_then (λ v. option_map (entry k v) (entries_default nodes ms n)) (default_of nodes d n)

  -- the default that the member of a key is
  pub default_under : List Node → List ℕ → Members → Option (Node → Option Value)
  default_under nodes key no_members = None
  default_under nodes key (member k d ms) =
      match_ordering (slice_cmp nat_cmp key k) (default_under nodes key ms) (Some (λ n. default_of nodes d n)) (default_under nodes key ms)
