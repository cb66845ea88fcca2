-- The first fault of bytes, read from left to right as an encoding of a node within limits: finished parts stand at
-- the front, each within what is left for it, and the next part fails (Avro 1.11, "Binary Encoding").
use Rattle.std.specs.Prelude.{◌≡◌, ◌≢◌, ◌⊎◌, ℕ, zero, suc, ◌-◌, ◌^◌, ◌<◌, ◌≤◌, ℤ, pos, negsuc, neg_ℤ, nat_abs, Bool, true, false, List, [], ◌∷◌, ◌++◌, length, take, nat_lt, bytes_eq}
use Rattle.std.specs.List.{concat, list_any, list_all}
use Rattle.std.specs.Str.{is_utf8}
use Rattle.avro_zigzag.specs.Number.{SpellsInt, SpellsLong}
use Rattle.avro_zigzag.specs.NumberFault.{IntFails, LongFails}
use Rattle.avro_zigzag.specs.declared.VarError.{VarError}
use Rattle.avro_zigzag.specs.declared.VarError.TheVariants.{EndOfInput, NotShortest, OutOfRange}
use Rattle.avro_schema.specs.Value.{Values, Entries, values_size, values_depth, values_longest_blob, values_count, entries_size, entries_depth, entries_longest_blob, entries_count, keys_of}
use Rattle.avro_schema.specs.Node.{Node, node_at, field_ids}
use Rattle.avro_schema.specs.Fits.{is_int, is_long, is_text, each_fits, entries_fit, fields_fit, LimitValues}
use Rattle.avro_schema.specs.Distinct.{are_distinct}
use Rattle.avro_cursor.specs.Encoding.{SpellsBytes, EachSpelled, EntriesSpelled}
use Rattle.avro_cursor.specs.Fault.{ReadFault, end_of_input, invalid_number, invalid_boolean, invalid_text, unknown_index, invalid_length, wrong_block_size, duplicate_key, limit_exceeded, behind}

-- what the fault of a number is: the input ends in it, or it is too large; a long spelling is no fault
abbrev pub number_fault : VarError → ReadFault
number_fault EndOfInput = end_of_input 0
number_fault NotShortest = invalid_number 0
number_fault OutOfRange = invalid_number 0

-- the fault of bytes that begin with no int
abbrev pub IntBreaks : List ℕ → ReadFault → Type 0
IntBreaks bytes f = (e : VarError) × IntFails bytes e × (f ≡ number_fault e)

-- the fault of bytes that begin with no long
abbrev pub LongBreaks : List ℕ → ReadFault → Type 0
LongBreaks bytes f = (e : VarError) × LongFails bytes e × (f ≡ number_fault e)

-- the fault of bytes that begin with no boolean: there are none, or the first is over 1
abbrev pub BooleanBreaks : List ℕ → ReadFault → Type 0
BooleanBreaks [] f = f ≡ end_of_input 0
BooleanBreaks (b ∷ rest) f = (1 < b) × (f ≡ invalid_boolean 0)

-- the fault of bytes that begin with no fixed of a size within a limit
abbrev pub FixedBreaks : ℕ → ℕ → List ℕ → ReadFault → Type 0
FixedBreaks count blob bytes f =
    ((blob < count) × (f ≡ limit_exceeded)) ⊎ ((count ≤ blob) × (length bytes < count) × (f ≡ end_of_input 0))

-- The long v is at the front, before the rest.
pub record StartsWithLong (v : ℤ) (bytes number rest : List ℕ) : Type 0 where
  pub spelled : SpellsLong v number
  pub in_range : is_long v ≡ true
  pub split : bytes ≡ number ++ rest

-- a length and its content, whose tests are: the length, its sign, the limit, the input's end, and that of the content
pub data ContentBreaks (is_content : List ℕ → Bool) (blob : ℕ) (bytes : List ℕ) : ReadFault → Type 0 where
  length_breaks : {f : ReadFault} → LongBreaks bytes f → ContentBreaks is_content blob bytes f
  negative : (n : ℕ) (number rest : List ℕ) → StartsWithLong (negsuc n) bytes number rest
      → ContentBreaks is_content blob bytes (invalid_length 0)
  too_long : (n : ℕ) (number rest : List ℕ) → StartsWithLong (pos n) bytes number rest → blob < n
      → ContentBreaks is_content blob bytes limit_exceeded
  cut : (n : ℕ) (number rest : List ℕ) → StartsWithLong (pos n) bytes number rest → n ≤ blob → length rest < n
      → ContentBreaks is_content blob bytes (end_of_input (length number))
  invalid : (n : ℕ) (number rest : List ℕ) → StartsWithLong (pos n) bytes number rest → n ≤ blob → n ≤ length rest
      → is_content (take n rest) ≡ false → ContentBreaks is_content blob bytes (invalid_text (length number))

-- the fault of bytes that begin with no content of bytes
abbrev pub BytesBreaks : ℕ → List ℕ → ReadFault → Type 0
BytesBreaks = ContentBreaks (λ content. true)

-- the fault of bytes that begin with no string
abbrev pub StringBreaks : ℕ → List ℕ → ReadFault → Type 0
StringBreaks = ContentBreaks is_utf8

-- whether a number is an index below a count
abbrev pub is_index : ℕ → ℤ → Bool
is_index choices (pos n) = nat_lt n choices
is_index choices (negsuc n) = false

-- the index of a branch or a symbol, below their count
pub data IndexBreaks (choices : ℕ) (bytes : List ℕ) : ReadFault → Type 0 where
  number_breaks : {f : ReadFault} → IntBreaks bytes f → IndexBreaks choices bytes f
  unknown : (v : ℤ) (number rest : List ℕ) → SpellsInt v number → is_int v ≡ true → bytes ≡ number ++ rest
      → is_index choices v ≡ false → IndexBreaks choices bytes (unknown_index 0)

-- A relation for the children of a node: the nodes left for one, its node, the bytes, and the fault.
abbrev pub ChildBreaks : Type 1
ChildBreaks = ℕ → Node → List ℕ → ReadFault → Type 0

-- some bytes, all of which are at the front, and then a part that breaks
pub record BreaksAfter (part_breaks : List ℕ → ReadFault → Type 0) (front bytes : List ℕ) (f : ReadFault) : Type 0 where
  pub rest : List ℕ
  pub fault : ReadFault
  pub split : bytes ≡ front ++ rest
  pub breaks : part_breaks rest fault
  pub moved : f ≡ behind (length front) fault

-- the value of a branch breaks, after its index
pub record BranchBreaks (nodes : List Node) (left : LimitValues) (child : ChildBreaks) (ids : List ℕ) (bytes : List ℕ) (f : ReadFault) : Type 0 where
  pub before : List ℕ
  pub branch : ℕ
  pub after : List ℕ
  pub ids_are : ids ≡ before ++ branch ∷ after
  pub number : List ℕ
  pub spelled : SpellsInt (pos (length before)) number
  pub breaks : BreaksAfter (child left.nodes (node_at nodes branch)) number bytes f

-- the fields before one are complete, and that one breaks
pub record FieldsBreak (nodes : List Node) (left : LimitValues) (child : ChildBreaks) (ids : List ℕ) (bytes : List ℕ) (f : ReadFault) : Type 0 where
  pub before : List ℕ
  pub field : ℕ
  pub after : List ℕ
  pub ids_are : ids ≡ before ++ field ∷ after
  pub values : Values
  pub items : List (List ℕ)
  pub fitting : fields_fit nodes before values ≡ true
  pub spelled : EachSpelled values items
  pub deep : values_depth values ≤ left.depth
  pub many : values_size values ≤ left.nodes
  pub long : values_longest_blob values ≤ left.blob
  pub breaks : BreaksAfter (child (left.nodes - values_size values) (node_at nodes field)) (concat items) bytes f

-- what is left for the items that follow: nodes, and the keys that occur before
pub record Left : Type 0 where
  pub nodes : ℕ
  pub keys : List (List ℕ)

-- a number of complete items is encoded as these bytes, and leaves this
pub record ItemsAreWhole (nodes : List Node) (limits : LimitValues) (n : Node) (left : Left) (count : ℕ) (bytes : List ℕ) (then_left : Left) : Type 0 where
  pub values : Values
  pub items : List (List ℕ)
  pub counted : values_count values ≡ count
  pub fitting : each_fits nodes n values ≡ true
  pub spelled : EachSpelled values items
  pub bytes_are : bytes ≡ concat items
  pub deep : values_depth values ≤ limits.depth
  pub many : values_size values ≤ left.nodes
  pub long : values_longest_blob values ≤ limits.blob
  pub leaves : then_left ≡ record { nodes = left.nodes - values_size values; keys = left.keys }

-- the same of a map's entries, no key of which occurs twice
pub record EntriesAreWhole (nodes : List Node) (limits : LimitValues) (n : Node) (left : Left) (count : ℕ) (bytes : List ℕ) (then_left : Left) : Type 0 where
  pub entries : Entries
  pub items : List (List ℕ)
  pub counted : entries_count entries ≡ count
  pub texts : list_all is_text (keys_of entries) ≡ true
  pub distinct : are_distinct bytes_eq (left.keys ++ keys_of entries) ≡ true
  pub fitting : entries_fit nodes n entries ≡ true
  pub spelled : EntriesSpelled entries items
  pub bytes_are : bytes ≡ concat items
  pub deep : entries_depth entries ≤ limits.depth
  pub many : entries_size entries ≤ left.nodes
  pub long : entries_longest_blob entries ≤ limits.blob
  pub leaves : then_left ≡ record { nodes = left.nodes - entries_size entries; keys = left.keys ++ keys_of entries }

-- a key of a map is a string that does not occur before
pub data KeyBreaks (keys : List (List ℕ)) (blob : ℕ) (bytes : List ℕ) : ReadFault → Type 0 where
  string_breaks : {f : ReadFault} → StringBreaks blob bytes f → KeyBreaks keys blob bytes f
  twice : (key front rest : List ℕ) → SpellsBytes key front → is_text key ≡ true → length key ≤ blob → bytes ≡ front ++ rest
      → list_any (bytes_eq key) keys ≡ true → KeyBreaks keys blob bytes (duplicate_key 0)

-- an entry: its key, or its value after it
pub data EntryBreaks (limits : LimitValues) (child : ChildBreaks) (n : Node) (left : Left) (bytes : List ℕ) : ReadFault → Type 0 where
  key_breaks : {f : ReadFault} → KeyBreaks left.keys limits.blob bytes f → EntryBreaks limits child n left bytes f
  value_breaks : {f : ReadFault} (key front : List ℕ) → SpellsBytes key front → is_text key ≡ true → length key ≤ limits.blob
      → list_any (bytes_eq key) left.keys ≡ false → BreaksAfter (child left.nodes n) front bytes f
      → EntryBreaks limits child n left bytes f

-- the head of a block: its count, and where that is negative the size of its items in bytes
pub data Head : Type 0 where
  counted : (count : ℕ) (count_bytes : List ℕ) → Head
  sized : (count size : ℕ) (count_bytes size_bytes : List ℕ) → Head

-- the count of a head
abbrev pub head_count : Head → ℕ
head_count (counted count count_bytes) = count
head_count (sized count size count_bytes size_bytes) = count

-- the bytes of a head
abbrev pub head_bytes : Head → List ℕ
head_bytes (counted count count_bytes) = count_bytes
head_bytes (sized count size count_bytes size_bytes) = count_bytes ++ size_bytes

-- a head that passes its tests, where a number of nodes is left; the count 0 is the end, and no head
abbrev pub IsHead : ℕ → Head → Type 0
IsHead left (counted count count_bytes) = (0 < count) × (count < 2 ^ 63) × (count ≤ left) × SpellsLong (pos count) count_bytes
IsHead left (sized count size count_bytes size_bytes) =
    (0 < count) × (count < 2 ^ 63) × (count ≤ left) × (size < 2 ^ 63) × SpellsLong (neg_ℤ (pos count)) count_bytes
    × SpellsLong (pos size) size_bytes

-- the size, where there is one, is this
abbrev pub HasSize : Head → ℕ → Type 0
HasSize (counted count count_bytes) n = Unit {0}
HasSize (sized count size count_bytes size_bytes) n = size ≡ n

-- the fault of a block's head, of its count or its size, where a number of nodes is left
pub data HeadBreaks (nodes : ℕ) (bytes : List ℕ) : ReadFault → Type 0 where
  -- the count fails
  count_fails : {f : ReadFault} → LongBreaks bytes f → HeadBreaks nodes bytes f
  -- it is -2^63
  count_least : (number rest : List ℕ) → StartsWithLong (negsuc (2 ^ 63 - 1)) bytes number rest → HeadBreaks nodes bytes (invalid_length 0)
  -- it is more than the nodes left
  count_over : (v : ℤ) (number rest : List ℕ) → StartsWithLong v bytes number rest → v ≢ negsuc (2 ^ 63 - 1) → nodes < nat_abs v
      → HeadBreaks nodes bytes limit_exceeded
  -- the size fails
  size_fails : {f : ReadFault} (n : ℕ) (number : List ℕ) → SpellsLong (negsuc n) number → suc n < 2 ^ 63 → n < nodes
      → BreaksAfter LongBreaks number bytes f → HeadBreaks nodes bytes f
  -- it is negative
  size_negative : (n m : ℕ) (number size behind_count rest : List ℕ) → SpellsLong (negsuc n) number → suc n < 2 ^ 63 → n < nodes
      → bytes ≡ number ++ behind_count → StartsWithLong (negsuc m) behind_count size rest → HeadBreaks nodes bytes (invalid_length (length number))

-- The blocks of an array or a map break; what complete items are, and how one breaks, is passed in.
pub data BlocksBreak (are_whole : Left → ℕ → List ℕ → Left → Type 0) (item_breaks : Left → List ℕ → ReadFault → Type 0) : Left → List ℕ → ReadFault → Type 0 where
  -- the head of the first block breaks
  head_breaks : {left : Left} {bytes : List ℕ} {f : ReadFault} → HeadBreaks left.nodes bytes f → BlocksBreak are_whole item_breaks left bytes f
  -- items of the block are whole, and the next breaks
  item_fails : {left : Left} {bytes : List ℕ} {f : ReadFault} (head : Head) (done : ℕ) (front : List ℕ) (then_left : Left)
      → IsHead left.nodes head → done < head_count head → are_whole left done front then_left
      → BreaksAfter (item_breaks then_left) (head_bytes head ++ front) bytes f → BlocksBreak are_whole item_breaks left bytes f
  -- all of them are, and the size is another
  size_differs : {left : Left} {bytes : List ℕ} (count size : ℕ) (count_bytes size_bytes front rest : List ℕ) (then_left : Left)
      → IsHead left.nodes (sized count size count_bytes size_bytes) → are_whole left count front then_left
      → bytes ≡ count_bytes ++ size_bytes ++ front ++ rest → size ≢ length front
      → BlocksBreak are_whole item_breaks left bytes (wrong_block_size (length count_bytes))
  -- the block is whole, and what follows breaks
  later_breaks : {left : Left} {bytes : List ℕ} {f : ReadFault} (head : Head) (front rest : List ℕ) (then_left : Left) (fault : ReadFault)
      → IsHead left.nodes head → are_whole left (head_count head) front then_left → HasSize head (length front)
      → bytes ≡ head_bytes head ++ front ++ rest → BlocksBreak are_whole item_breaks then_left rest fault
      → f ≡ behind (length (head_bytes head ++ front)) fault → BlocksBreak are_whole item_breaks left bytes f

-- nothing read yet
abbrev pub all_left : LimitValues → Left
all_left limits = record { nodes = limits.nodes; keys = [] }

-- a node, by its kind; `left` is what is left for its children, and `child` says how one of them breaks
abbrev pub NodeBreaks : List Node → LimitValues → ChildBreaks → Node → List ℕ → ReadFault → Type 0
NodeBreaks nodes left child Node.null bytes f = ⊥
NodeBreaks nodes left child Node.boolean bytes f = BooleanBreaks bytes f
NodeBreaks nodes left child Node.int bytes f = IntBreaks bytes f
NodeBreaks nodes left child Node.long bytes f = LongBreaks bytes f
NodeBreaks nodes left child Node.bytes bytes f = BytesBreaks left.blob bytes f
NodeBreaks nodes left child Node.string bytes f = StringBreaks left.blob bytes f
NodeBreaks nodes left child (Node.array id) bytes f =
    BlocksBreak (ItemsAreWhole nodes left (node_at nodes id)) (λ state. child state.nodes (node_at nodes id)) (all_left left) bytes f
NodeBreaks nodes left child (Node.map_of id) bytes f =
    BlocksBreak (EntriesAreWhole nodes left (node_at nodes id)) (EntryBreaks left child (node_at nodes id)) (all_left left) bytes f
NodeBreaks nodes left child (Node.union ids) bytes f = IndexBreaks (length ids) bytes f ⊎ BranchBreaks nodes left child ids bytes f
NodeBreaks nodes left child (Node.record_of name aliases fields) bytes f = FieldsBreak nodes left child (field_ids fields) bytes f
NodeBreaks nodes left child (Node.enum name aliases symbols default) bytes f = IndexBreaks (length symbols) bytes f
NodeBreaks nodes left child (Node.fixed name aliases count) bytes f = FixedBreaks count left.blob bytes f

-- the same within what is left: if no depth or no node is, a limit is exceeded; otherwise the node takes one of each
abbrev pub BreaksWithin : List Node → ℕ → ℕ → ℕ → Node → List ℕ → ReadFault → Type 0
BreaksWithin nodes zero count blob n bytes f = f ≡ limit_exceeded
BreaksWithin nodes (suc depth) zero blob n bytes f = f ≡ limit_exceeded
BreaksWithin nodes (suc depth) (suc count) blob n bytes f =
    NodeBreaks nodes (record { depth = depth; nodes = count; blob = blob }) (λ left m rest g. BreaksWithin nodes depth left blob m rest g) n bytes f

-- the first fault of bytes that are read as a node within limits: complete parts come first, and the next part fails
abbrev pub Breaks : List Node → LimitValues → Node → List ℕ → ReadFault → Type 0
Breaks nodes limits n bytes f = BreaksWithin nodes limits.depth limits.nodes limits.blob n bytes f
