-- Data of nodes, with their sizes and depths: computed.
use Rattle.std.proofs.Common.{◌≡◌, refl, ℕ, pos, negsuc, true, false, List, [], ◌∷◌, None, codes}
use Rattle.std.specs.Str.{is_utf8, chars}
use lib.Utf8.{encode}
use Rattle.avro_schema.specs.Value.{Value, no_values, no_entries, entry, size, depth, longest_blob}
use Rattle.avro_schema.specs.Node.{Node, node_at, root_of}
use Rattle.avro_schema.specs.Empty.{is_empty}
use Rattle.avro_schema.specs.Empties.{empty_datum, has_measure}
use Rattle.avro_schema.specs.Runs.{is_run}
use Rattle.avro_schema.specs.Fits.{fits, is_within}
use Rattle.avro_schema.proofs.public.RowsSchemas.{simply, one_value, two_values, map_of_int, linked_list, chain_of_four, doubled, record_of_itself}

-- the least and the greatest int and long, and those beyond
greatest_int : fits [] Node.int (Value.int (pos 2147483647)) ≡ true
greatest_int = refl

past_greatest_int : fits [] Node.int (Value.int (pos 2147483648)) ≡ false
past_greatest_int = refl

least_int : fits [] Node.int (Value.int (negsuc 2147483647)) ≡ true
least_int = refl

past_least_int : fits [] Node.int (Value.int (negsuc 2147483648)) ≡ false
past_least_int = refl

least_long : fits [] Node.long (Value.long (negsuc 9223372036854775807)) ≡ true
least_long = refl

past_greatest_long : fits [] Node.long (Value.long (pos 9223372036854775808)) ≡ false
past_greatest_long = refl

-- an int is not a datum of a long
int_for_long : fits [] Node.long (Value.int (pos 1)) ≡ false
int_for_long = refl

-- a string is UTF-8, and bytes are any
text_of_two_bytes : fits [] Node.string (Value.string (195 ∷ 169 ∷ [])) ≡ true
unfolding is_utf8 chars encode
text_of_two_bytes = refl

text_not_utf8 : fits [] Node.string (Value.string (255 ∷ [])) ≡ false
unfolding is_utf8 chars encode
text_not_utf8 = refl

bytes_not_utf8 : fits [] Node.bytes (Value.bytes (255 ∷ [])) ≡ true
bytes_not_utf8 = refl

bytes_past_255 : fits [] Node.bytes (Value.bytes (256 ∷ [])) ≡ false
bytes_past_255 = refl

-- a fixed has the number of bytes of its node
fixed_of_two : fits [] (Node.fixed (simply (codes "F")) [] 2) (Value.fixed (0 ∷ 1 ∷ [])) ≡ true
fixed_of_two = refl

fixed_of_one_for_two : fits [] (Node.fixed (simply (codes "F")) [] 2) (Value.fixed (0 ∷ [])) ≡ false
fixed_of_one_for_two = refl

-- the index of a symbol
abbrev two_symbols : Node
two_symbols = Node.enum (simply (codes "E")) [] (codes "A" ∷ codes "B" ∷ []) None

last_symbol : fits [] two_symbols (Value.enum 1) ≡ true
last_symbol = refl

no_such_symbol : fits [] two_symbols (Value.enum 2) ≡ false
no_such_symbol = refl

-- entries of a map of ints, whose keys are distinct texts
abbrev two_entries : List ℕ → List ℕ → Value
two_entries first second = Value.map_of (entry first (Value.int (pos 1)) (entry second (Value.int (pos 2)) no_entries))

two_keys : fits map_of_int (root_of map_of_int) (two_entries (codes "b") (codes "a")) ≡ true
unfolding is_utf8 chars encode
two_keys = refl

one_key_twice : fits map_of_int (root_of map_of_int) (two_entries (codes "a") (codes "a")) ≡ false
unfolding is_utf8 chars encode
one_key_twice = refl

key_not_utf8 : fits map_of_int (root_of map_of_int) (two_entries (codes "a") (255 ∷ [])) ≡ false
unfolding is_utf8 chars encode
key_not_utf8 = refl

-- keys are no nodes, but count as contents
map_size : size (two_entries (codes "left") (codes "right")) ≡ 3
map_size = refl

map_depth : depth (two_entries (codes "left") (codes "right")) ≡ 2
map_depth = refl

map_longest_blob : longest_blob (two_entries (codes "left") (codes "right")) ≡ 5
map_longest_blob = refl

-- data of one and of two records, of a list of ints by a record with an edge back to itself
abbrev link : ℕ → Value → Value
link n next = Value.record_of (two_values (Value.int (pos n)) next)

abbrev one_link : Value
one_link = link 1 (Value.union 0 Value.null)

abbrev two_links : Value
two_links = link 1 (Value.union 1 (link 2 (Value.union 0 Value.null)))

two_links-fit : fits (linked_list Node.int) (root_of (linked_list Node.int)) two_links ≡ true
two_links-fit = refl

-- the branch is that of the record, but the value is null
wrong_branch : fits (linked_list Node.int) (root_of (linked_list Node.int)) (link 1 (Value.union 1 Value.null)) ≡ false
wrong_branch = refl

-- there are two branches
no_such_branch : fits (linked_list Node.int) (root_of (linked_list Node.int)) (link 1 (Value.union 2 Value.null)) ≡ false
no_such_branch = refl

field_missing : fits (linked_list Node.int) (root_of (linked_list Node.int)) (Value.record_of (one_value (Value.int (pos 1)))) ≡ false
field_missing = refl

-- a union is a node, and its value another
one_link-size : size one_link ≡ 4
one_link-size = refl

two_links-size : size two_links ≡ 7
two_links-size = refl

one_link-depth : depth one_link ≡ 3
one_link-depth = refl

two_links-depth : depth two_links ≡ 5
two_links-depth = refl

-- an array and a record without parts
empty_array-size : size (Value.array no_values) ≡ 1
empty_array-size = refl

empty_record-depth : depth (Value.record_of no_values) ≡ 1
empty_record-depth = refl

-- the limits bound depth, nodes and contents, and are met themselves
two_links-within : is_within (record { depth = 5; nodes = 7; blob = 0 }) two_links ≡ true
two_links-within = refl

two_links-too_deep : is_within (record { depth = 4; nodes = 7; blob = 0 }) two_links ≡ false
two_links-too_deep = refl

two_links-too_many : is_within (record { depth = 5; nodes = 6; blob = 0 }) two_links ≡ false
two_links-too_many = refl

key_too_long : is_within (record { depth = 5; nodes = 7; blob = 4 }) (two_entries (codes "left") (codes "right")) ≡ false
key_too_long = refl

-- data whose encoding has no bytes, and others
null_and_no_bytes-empty : is_empty (Value.record_of (two_values Value.null (Value.fixed []))) ≡ true
null_and_no_bytes-empty = refl

one_byte-not_empty : is_empty (Value.record_of (two_values Value.null (Value.fixed (7 ∷ [])))) ≡ false
one_byte-not_empty = refl

no_items-not_empty : is_empty (Value.array no_values) ≡ false
no_items-not_empty = refl

-- The third of a chain of records takes no bytes, three levels deep; an enum takes one, and a record of itself has no datum.
third_of_chain-empty : has_measure 3 3 (empty_datum 3 chain_of_four (node_at chain_of_four 3)) ≡ true
third_of_chain-empty = refl

third_of_chain-too_deep : empty_datum 2 chain_of_four (node_at chain_of_four 3) ≡ None
third_of_chain-too_deep = refl

enum_inside-not_empty : empty_datum 9 (doubled 1) (root_of (doubled 1)) ≡ None
enum_inside-not_empty = refl

record_of_itself-not_empty : empty_datum 9 record_of_itself (root_of record_of_itself) ≡ None
record_of_itself-not_empty = refl

-- a record without fields twice, and one that has it as its field: how many of them, of how many nodes, how deep
two_fields-run : is_run chain_of_four (1 ∷ 1 ∷ 2 ∷ []) (record { fields = 2; nodes = 2; depth = 1 }) ≡ true
two_fields-run = refl

three_fields-run : is_run chain_of_four (1 ∷ 1 ∷ 2 ∷ []) (record { fields = 3; nodes = 4; depth = 2 }) ≡ true
three_fields-run = refl

four_fields-no_run : is_run chain_of_four (1 ∷ 1 ∷ 2 ∷ []) (record { fields = 4; nodes = 4; depth = 2 }) ≡ false
four_fields-no_run = refl

depth_of_the_last-no_run : is_run chain_of_four (1 ∷ 2 ∷ 1 ∷ []) (record { fields = 3; nodes = 4; depth = 1 }) ≡ false
depth_of_the_last-no_run = refl
