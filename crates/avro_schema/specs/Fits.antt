-- When a datum is one of a schema's node, and within limits (Avro 1.11, "Schema Declaration").
use Rattle.std.specs.Prelude.{ℕ, ◌-◌, ◌^◌, ℤ, pos, negsuc, Bool, true, false, ◌&&◌, List, [], ◌∷◌, Option, Some, None, length, slice_get, nat_lt, nat_le, ◌==◌, int_le, bytes_eq, option_and_then}
use Rattle.std.specs.List.{list_all}
use Rattle.std.specs.Str.{is_utf8}
use Rattle.avro_schema.specs.Value.{Value, Values, Entries, no_values, value, no_entries, entry, size, depth, longest_blob, values_count, entries_count, keys_of}
use Rattle.avro_schema.specs.Node.{Node, node_at, items_node, values_node, branches_of, fields_of, symbols_of, fixed_length, field_ids}
use Rattle.avro_schema.specs.Distinct.{are_distinct}

-- the number fits in 32 bits
abbrev pub is_int : ℤ → Bool
is_int i = int_le (negsuc (2 ^ 31 - 1)) i && int_le i (pos (2 ^ 31 - 1))

-- the number fits in 64 bits
abbrev pub is_long : ℤ → Bool
is_long i = int_le (negsuc (2 ^ 63 - 1)) i && int_le i (pos (2 ^ 63 - 1))

-- a length or a number of items, which the encoding writes as a long
abbrev pub is_count : ℕ → Bool
is_count n = nat_lt n (2 ^ 63)

-- bytes, in a number that a long can give
abbrev pub are_bytes : List ℕ → Bool
are_bytes b = is_count (length b) && list_all (λ x. nat_lt x 256) b

-- the same number of bytes at most, which are UTF-8
abbrev pub is_text : List ℕ → Bool
is_text t = is_count (length t) && is_utf8 t

-- whether there is a value that passes
abbrev pub is_some_and : {A : Type 0} → (A → Bool) → Option A → Bool
is_some_and test None = false
is_some_and test (Some x) = test x

-- a node is null
abbrev pub is_null_node : Node → Bool
is_null_node Node.null = true
is_null_node _ = false

-- a node is boolean
abbrev pub is_boolean_node : Node → Bool
is_boolean_node Node.boolean = true
is_boolean_node _ = false

-- a node is int
abbrev pub is_int_node : Node → Bool
is_int_node Node.int = true
is_int_node _ = false

-- a node is long
abbrev pub is_long_node : Node → Bool
is_long_node Node.long = true
is_long_node _ = false

-- a node is bytes
abbrev pub is_bytes_node : Node → Bool
is_bytes_node Node.bytes = true
is_bytes_node _ = false

-- a node is string
abbrev pub is_string_node : Node → Bool
is_string_node Node.string = true
is_string_node _ = false

-- The datum is one of the node, by cases on the datum: it has the kind of the node, each number, length, text and index
-- is in range, keys are distinct, and each part fits the node of its id.
abbrev mutual
  pub fits : List Node → Node → Value → Bool
  fits nodes n Value.null = is_null_node n
  fits nodes n (Value.boolean b) = is_boolean_node n
  fits nodes n (Value.int i) = is_int_node n && is_int i
  fits nodes n (Value.long i) = is_long_node n && is_long i
  fits nodes n (Value.bytes b) = is_bytes_node n && are_bytes b
  fits nodes n (Value.string t) = is_string_node n && is_text t
  fits nodes n (Value.array vs) = is_count (values_count vs) && is_some_and (λ id. each_fits nodes (node_at nodes id) vs) (items_node n)
  fits nodes n (Value.map_of es) =
      is_count (entries_count es) && list_all is_text (keys_of es) && are_distinct bytes_eq (keys_of es)
      && is_some_and (λ id. entries_fit nodes (node_at nodes id) es) (values_node n)
  fits nodes n (Value.union k v) =
      is_some_and (λ id. fits nodes (node_at nodes id) v) (option_and_then (λ ids. slice_get ids k) (branches_of n))
  fits nodes n (Value.record_of vs) = is_some_and (λ fields. fields_fit nodes (field_ids fields) vs) (fields_of n)
  fits nodes n (Value.enum k) = is_some_and (λ symbols. nat_lt k (length symbols)) (symbols_of n)
  fits nodes n (Value.fixed b) = are_bytes b && is_some_and (λ count. length b == count) (fixed_length n)

  -- each of the values fits one node
  pub each_fits : List Node → Node → Values → Bool
  each_fits nodes n no_values = true
  each_fits nodes n (value v vs) = fits nodes n v && each_fits nodes n vs

  -- the value of each entry fits one node
  pub entries_fit : List Node → Node → Entries → Bool
  entries_fit nodes n no_entries = true
  entries_fit nodes n (entry k v es) = fits nodes n v && entries_fit nodes n es

  -- there is one value for each id, and it fits the node there
  pub fields_fit : List Node → List ℕ → Values → Bool
  fields_fit nodes [] no_values = true
  fields_fit nodes (id ∷ ids) no_values = false
  fields_fit nodes [] (value v vs) = false
  fields_fit nodes (id ∷ ids) (value v vs) = fits nodes (node_at nodes id) v && fields_fit nodes ids vs

-- three limits: the greatest depth, number of nodes, and length of one bytes, string, key or fixed
pub record LimitValues : Type 0 where
  pub depth : ℕ
  pub nodes : ℕ
  pub blob : ℕ

-- a datum's depth, number of nodes and longest blob are within the limits
abbrev pub is_within : LimitValues → Value → Bool
is_within limits v = nat_le (depth v) limits.depth && nat_le (size v) limits.nodes && nat_le (longest_blob v) limits.blob
