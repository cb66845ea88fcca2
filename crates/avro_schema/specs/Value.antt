-- What a datum is, with its size and depth (Avro 1.11, "Schema Declaration").
-- A datum of the program is seen as one of these values: no capacity and no pointer is in it.
use Rattle.std.specs.Prelude.{ℕ, suc, ◌+◌, max, ℤ, Bool, List, [], ◌∷◌, length}

-- a datum as a finite tree
mutual
  pub data Value : Type 0 where
    null : Value
    boolean : Bool → Value
    int : ℤ → Value
    long : ℤ → Value
    bytes : List ℕ → Value
    -- a text as the bytes of its UTF-8
    string : List ℕ → Value
    array : Values → Value
    map_of : Entries → Value
    -- the index of the branch, and its value
    union : ℕ → Value → Value
    -- a value for each field
    record_of : Values → Value
    -- the index of the symbol
    enum : ℕ → Value
    fixed : List ℕ → Value

  -- the items of an array, or the values of a record's fields
  pub data Values : Type 0 where
    no_values : Values
    value : Value → Values → Values

  -- the entries of a map, in order: each a key and a value
  pub data Entries : Type 0 where
    no_entries : Entries
    entry : List ℕ → Value → Entries → Entries

-- the number of nodes: a union is one and its value another, keys are none
abbrev mutual
  pub size : Value → ℕ
  size Value.null = 1
  size (Value.boolean b) = 1
  size (Value.int i) = 1
  size (Value.long i) = 1
  size (Value.bytes b) = 1
  size (Value.string t) = 1
  size (Value.array vs) = suc (values_size vs)
  size (Value.map_of es) = suc (entries_size es)
  size (Value.union k v) = suc (size v)
  size (Value.record_of vs) = suc (values_size vs)
  size (Value.enum k) = 1
  size (Value.fixed b) = 1

  -- the number of nodes of several values
  pub values_size : Values → ℕ
  values_size no_values = 0
  values_size (value v vs) = size v + values_size vs

  -- the number of nodes of the values of several entries
  pub entries_size : Entries → ℕ
  entries_size no_entries = 0
  entries_size (entry k v es) = size v + entries_size es

-- 1 for a datum without parts, otherwise one more than that of its deepest part
abbrev mutual
  pub depth : Value → ℕ
  depth Value.null = 1
  depth (Value.boolean b) = 1
  depth (Value.int i) = 1
  depth (Value.long i) = 1
  depth (Value.bytes b) = 1
  depth (Value.string t) = 1
  depth (Value.array vs) = suc (values_depth vs)
  depth (Value.map_of es) = suc (entries_depth es)
  depth (Value.union k v) = suc (depth v)
  depth (Value.record_of vs) = suc (values_depth vs)
  depth (Value.enum k) = 1
  depth (Value.fixed b) = 1

  -- the depth of the deepest of several values, 0 if there are none
  pub values_depth : Values → ℕ
  values_depth no_values = 0
  values_depth (value v vs) = max (depth v) (values_depth vs)

  -- the same of the values of several entries
  pub entries_depth : Entries → ℕ
  entries_depth no_entries = 0
  entries_depth (entry k v es) = max (depth v) (entries_depth es)

-- the greatest length of any bytes, string, key or fixed in it
abbrev mutual
  pub longest_blob : Value → ℕ
  longest_blob Value.null = 0
  longest_blob (Value.boolean b) = 0
  longest_blob (Value.int i) = 0
  longest_blob (Value.long i) = 0
  longest_blob (Value.bytes b) = length b
  longest_blob (Value.string t) = length t
  longest_blob (Value.array vs) = values_longest_blob vs
  longest_blob (Value.map_of es) = entries_longest_blob es
  longest_blob (Value.union k v) = longest_blob v
  longest_blob (Value.record_of vs) = values_longest_blob vs
  longest_blob (Value.enum k) = 0
  longest_blob (Value.fixed b) = length b

  -- the same of several values
  pub values_longest_blob : Values → ℕ
  values_longest_blob no_values = 0
  values_longest_blob (value v vs) = max (longest_blob v) (values_longest_blob vs)

  -- the same of several entries, with their keys
  pub entries_longest_blob : Entries → ℕ
  entries_longest_blob no_entries = 0
  entries_longest_blob (entry k v es) = max (max (length k) (longest_blob v)) (entries_longest_blob es)

-- the number of values
abbrev pub values_count : Values → ℕ
values_count no_values = 0
values_count (value v vs) = suc (values_count vs)

-- the number of entries
abbrev pub entries_count : Entries → ℕ
entries_count no_entries = 0
entries_count (entry k v es) = suc (entries_count es)

-- the keys, in order
abbrev pub keys_of : Entries → List (List ℕ)
keys_of no_entries = []
keys_of (entry k v es) = k ∷ keys_of es

-- the first value is a proper part of the second, at any depth
mutual
  pub data IsPart : Value → Value → Type 0 where
    of_array : {v : Value} {vs : Values} → IsAmongValues v vs → IsPart v (Value.array vs)
    of_map : {v : Value} {es : Entries} → IsAmongEntries v es → IsPart v (Value.map_of es)
    of_union : {v : Value} {k : ℕ} → IsPart v (Value.union k v)
    of_branch : {v w : Value} {k : ℕ} → IsPart v w → IsPart v (Value.union k w)
    of_record : {v : Value} {vs : Values} → IsAmongValues v vs → IsPart v (Value.record_of vs)

  -- a value is one of several values, or a part of one
  pub data IsAmongValues : Value → Values → Type 0 where
    first_value : {v : Value} {vs : Values} → IsAmongValues v (value v vs)
    in_value : {v w : Value} {vs : Values} → IsPart v w → IsAmongValues v (value w vs)
    later_value : {v w : Value} {vs : Values} → IsAmongValues v vs → IsAmongValues v (value w vs)

  -- a value is that of one of several entries, or a part of one
  pub data IsAmongEntries : Value → Entries → Type 0 where
    first_entry : {k : List ℕ} {v : Value} {es : Entries} → IsAmongEntries v (entry k v es)
    in_entry : {k : List ℕ} {v w : Value} {es : Entries} → IsPart v w → IsAmongEntries v (entry k w es)
    later_entry : {k : List ℕ} {v w : Value} {es : Entries} → IsAmongEntries v es → IsAmongEntries v (entry k w es)
