-- Sets of pairs that show two schemas compatible, and sets that do not: computed.
use Rattle.std.proofs.Common.{◌≡◌, refl, ℕ, true, false, List, [], ◌∷◌, Some, None}
use Rattle.avro_schema.specs.Node.{Node}
use Rattle.avro_schema.proofs.public.RowsSchemas.{array_of_int, array_of_string, array_of_int_union, long_or_int, long_and_string, string_and_long, three_symbols, two_symbols, one_of_int, two_of_one_simple_name, linked_list, record_of_itself, int_or_nothing, chain_of_three, array_of_one, array_of_two, second_field, second_field_by_default, before_renaming, after_renaming}
use Rattle.avro_compare.specs.Children.{Pair}
use Rattle.avro_certificate.specs.Closed.{is_dead, is_closed}

abbrev pair : ℕ → ℕ → Pair
pair w r = record { w = w; r = r }

-- no dead nodes
abbrev IsClosedBy : List Node → List Node → List Pair → Type 0
IsClosedBy writer reader pairs = is_closed writer reader [] pairs ≡ true

abbrev IsOpen : List Node → List Node → List Pair → Type 0
IsOpen writer reader pairs = is_closed writer reader [] pairs ≡ false

-- primitive types
int_for_long : IsClosedBy (Node.int ∷ []) (Node.long ∷ []) (pair 0 0 ∷ [])
int_for_long = refl

string_for_bytes : IsClosedBy (Node.string ∷ []) (Node.bytes ∷ []) (pair 0 0 ∷ [])
string_for_bytes = refl

bytes_for_string : IsOpen (Node.bytes ∷ []) (Node.string ∷ []) (pair 0 0 ∷ [])
bytes_for_string = refl

long_for_int : IsOpen (Node.long ∷ []) (Node.int ∷ []) (pair 0 0 ∷ [])
long_for_int = refl

-- the pair of the roots is asked for, and numbers of nodes
no_pair : IsOpen (Node.int ∷ []) (Node.long ∷ []) []
no_pair = refl

no_such_node : IsOpen (Node.int ∷ []) (Node.long ∷ []) (pair 0 0 ∷ pair 0 1 ∷ [])
no_such_node = refl

-- a reader's union asks for the pair of its first branch that matches, a writer's union for each branch
int_for_union : IsClosedBy (Node.int ∷ []) long_or_int (pair 0 0 ∷ pair 0 1 ∷ [])
int_for_union = refl

int_for_second_branch : IsOpen (Node.int ∷ []) long_or_int (pair 0 0 ∷ pair 0 2 ∷ [])
int_for_second_branch = refl

union_for_long : IsClosedBy long_or_int (Node.long ∷ []) (pair 0 0 ∷ pair 1 0 ∷ pair 2 0 ∷ [])
union_for_long = refl

union_for_int : IsOpen long_or_int (Node.int ∷ []) (pair 0 0 ∷ pair 1 0 ∷ pair 2 0 ∷ [])
union_for_int = refl

no_branch : IsOpen (Node.string ∷ []) long_or_int (pair 0 0 ∷ [])
no_branch = refl

-- the same where the first of two branches of one simple name matches, and its field does not
one_simple_name : IsOpen one_of_int two_of_one_simple_name (pair 0 0 ∷ pair 0 1 ∷ pair 1 2 ∷ [])
one_simple_name = refl

-- symbols and their default
symbol_by_default : IsClosedBy three_symbols (two_symbols (Some 0)) (pair 0 0 ∷ [])
symbol_by_default = refl

symbol_is_lacking : IsOpen three_symbols (two_symbols None) (pair 0 0 ∷ [])
symbol_is_lacking = refl

fewer_symbols : IsClosedBy (two_symbols None) three_symbols (pair 0 0 ∷ [])
fewer_symbols = refl

-- fields in another order, by default and by alias
fields_are_reordered : IsClosedBy long_and_string string_and_long (pair 0 0 ∷ pair 1 2 ∷ pair 2 1 ∷ [])
fields_are_reordered = refl

fields_by_index : IsOpen long_and_string string_and_long (pair 0 0 ∷ pair 1 1 ∷ pair 2 2 ∷ [])
fields_by_index = refl

field_by_default : IsClosedBy array_of_one (array_of_two second_field_by_default) (pair 0 0 ∷ pair 1 1 ∷ pair 2 2 ∷ [])
field_by_default = refl

field_without_source : IsOpen array_of_one (array_of_two second_field) (pair 0 0 ∷ pair 1 1 ∷ pair 2 2 ∷ [])
field_without_source = refl

field_is_left_out : IsClosedBy (array_of_two second_field) array_of_one (pair 0 0 ∷ pair 1 1 ∷ pair 2 2 ∷ [])
field_is_left_out = refl

names_by_alias : IsClosedBy before_renaming after_renaming (pair 0 0 ∷ pair 1 1 ∷ [])
names_by_alias = refl

-- items
ints_for_strings : IsOpen array_of_int array_of_string (pair 0 0 ∷ pair 1 1 ∷ [])
ints_for_strings = refl

union_items_for_strings : IsOpen array_of_int_union array_of_string (pair 0 0 ∷ pair 1 1 ∷ pair 2 1 ∷ [])
union_items_for_strings = refl

-- a list by a record with an edge back to itself
linked_ints_for_longs : IsClosedBy (linked_list Node.int) (linked_list Node.long) (pair 0 0 ∷ pair 0 2 ∷ pair 1 1 ∷ pair 2 2 ∷ pair 3 2 ∷ pair 3 3 ∷ [])
linked_ints_for_longs = refl

links_in_another_order : IsClosedBy (linked_list Node.int) (linked_list Node.long) (pair 3 3 ∷ pair 3 2 ∷ pair 2 2 ∷ pair 1 1 ∷ pair 0 2 ∷ pair 0 0 ∷ [])
links_in_another_order = refl

links_without_the_last : IsOpen (linked_list Node.int) (linked_list Node.long) (pair 0 0 ∷ pair 0 2 ∷ pair 1 1 ∷ pair 2 2 ∷ pair 3 2 ∷ [])
links_without_the_last = refl

linked_longs_for_ints : IsOpen (linked_list Node.long) (linked_list Node.int) (pair 0 0 ∷ pair 0 2 ∷ pair 1 1 ∷ pair 2 2 ∷ pair 3 2 ∷ pair 3 3 ∷ [])
linked_longs_for_ints = refl

-- a record that holds itself is dead, and asks for no pair
record_of_itself-dead : is_dead record_of_itself (0 ∷ []) ≡ true
record_of_itself-dead = refl

record_of_itself-closed : is_closed record_of_itself (Node.int ∷ []) (0 ∷ []) [] ≡ true
record_of_itself-closed = refl

record_of_itself-with_pairs : is_closed record_of_itself (Node.int ∷ []) (0 ∷ []) (pair 0 0 ∷ []) ≡ true
record_of_itself-with_pairs = refl

record_of_itself-alive : is_closed record_of_itself (Node.int ∷ []) [] (pair 0 0 ∷ []) ≡ false
record_of_itself-alive = refl

-- a record that holds itself through a union with null is not
linked_list-alive : is_dead (linked_list Node.int) (0 ∷ 2 ∷ []) ≡ false
linked_list-alive = refl

-- a union of int and of such a record: the record is dead, and the union is not
half_dead : is_dead int_or_nothing (2 ∷ []) ≡ true
half_dead = refl

half_dead_for_long : is_closed int_or_nothing (Node.long ∷ []) (2 ∷ []) (pair 0 0 ∷ pair 1 0 ∷ []) ≡ true
half_dead_for_long = refl

union_is_not_dead : is_closed int_or_nothing (Node.string ∷ []) (0 ∷ []) [] ≡ false
union_is_not_dead = refl

nothing_is_given : is_closed int_or_nothing (Node.string ∷ []) [] [] ≡ false
nothing_is_given = refl

dead_out_of_range : is_dead record_of_itself (0 ∷ 1 ∷ []) ≡ false
dead_out_of_range = refl

dead_int : is_dead (Node.int ∷ []) (0 ∷ []) ≡ false
dead_int = refl

-- a union of a record of no field and of records that hold others is a reader of itself
chain_for_itself : IsClosedBy chain_of_three chain_of_three
    (pair 0 0 ∷ pair 1 0 ∷ pair 2 0 ∷ pair 3 0 ∷ pair 1 1 ∷ pair 2 2 ∷ pair 3 3 ∷ [])
chain_for_itself = refl
