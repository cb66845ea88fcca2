-- Resolution of data, and the first faults of such that do not resolve: computed.
use Rattle.std.proofs.Common.{◌≡◌, refl, ℕ, pos, negsuc, true, false, List, [], ◌∷◌, Some, None, Ok, Err, codes}
use Rattle.std.specs.Str.{is_utf8, chars}
use lib.Utf8.{encode}
use Rattle.avro_schema.specs.Value.{Value, no_values, no_entries, entry, size, depth}
use Rattle.avro_schema.specs.Node.{Node, root_of}
use Rattle.avro_schema.specs.Fits.{fits}
use Rattle.avro_schema.specs.WellFormed.{is_schema}
use Rattle.avro_schema.proofs.public.RowsSchemas.{plain_field, aliased_field, simply, one_value, two_values, array_of_int, array_of_string, array_of_int_union, map_of_int, map_of_string_union, long_or_int, long_and_string, string_and_long, three_symbols, two_symbols, one_of_int, two_of_one_simple_name, linked_list, doubled, doubled_value, no_fields, chain_of_four, chain_of_three, array_of_one, array_of_two, second_field, second_field_by_default, before_renaming, after_renaming, record_of_int}
use Rattle.avro_compare.specs.Fault.{FaultCause, no_match, no_branch, missing_field_at, no_symbol, not_utf8, ResolutionFault}
use Rattle.avro_compare.specs.Resolve.{resolve_root}

-- a fault and its path
abbrev fault_at : FaultCause → List ℕ → ResolutionFault
fault_at cause path = record { cause = cause; path = path }

-- the datum is one of the writer's, of so many nodes, and it has this fault
record Refutes (writer reader : List Node) (v : Value) (nodes : ℕ) (fault : ResolutionFault) : Type 0 where
  fitting : fits writer (root_of writer) v ≡ true
  counted : size v ≡ nodes
  faulty : resolve_root writer reader v ≡ Err fault

-- the datum is one of the writer's, and it resolves to one of the reader's
record Becomes (writer reader : List Node) (v w : Value) : Type 0 where
  fitting : fits writer (root_of writer) v ≡ true
  resolved : resolve_root writer reader v ≡ Ok w
  stays_good : fits reader (root_of reader) w ≡ true

-- schemas of single rows: an array of a union of a type and string, and records that read others
abbrev array_of_union_of : Node → List Node
array_of_union_of n = Node.array 1 ∷ Node.union (2 ∷ 3 ∷ []) ∷ n ∷ Node.string ∷ []

array_of_union_of-good : is_schema (array_of_union_of Node.long) ≡ true
array_of_union_of-good = refl

abbrev reader_by_name_and_alias : List Node
reader_by_name_and_alias = Node.array 1 ∷ Node.record_of (simply (codes "R")) [] (aliased_field (codes "b") (codes "a" ∷ []) 2 ∷ []) ∷ Node.int ∷ []

reader_by_name_and_alias-good : is_schema reader_by_name_and_alias ≡ true
reader_by_name_and_alias-good = refl

abbrev reader_of_string_and_more : List Node
reader_of_string_and_more =
    Node.record_of (simply (codes "R")) [] (plain_field (codes "x") 1 ∷ plain_field (codes "y") 1 ∷ []) ∷ Node.string ∷ []

reader_of_string_and_more-good : is_schema reader_of_string_and_more ≡ true
reader_of_string_and_more-good = refl

abbrev readers_of_nulls : List Node
readers_of_nulls =
    Node.record_of (simply (codes "test")) [] (plain_field (codes "a") 1 ∷ plain_field (codes "b") 1 ∷ []) ∷ Node.null ∷ []

readers_of_nulls-good : is_schema readers_of_nulls ≡ true
readers_of_nulls-good = refl

-- data of single rows: a link of a list, and the fourth record of a chain
abbrev link : Value → Value → Value
link v next = Value.record_of (two_values v next)

abbrev chain_value : Value
chain_value = Value.union 3 (around (around (around (Value.record_of no_values))))
  where
    around : Value → Value
    around v = Value.record_of (one_value v)

-- primitive types
int_becomes_long : Becomes (Node.int ∷ []) (Node.long ∷ [])
    (Value.int (pos 64))
    (Value.long (pos 64))
int_becomes_long = record { fitting = refl; resolved = refl; stays_good = refl }

long_for_int : Refutes (Node.long ∷ []) (Node.int ∷ [])
    (Value.long (pos 0)) 1 (fault_at no_match [])
long_for_int = record { fitting = refl; counted = refl; faulty = refl }

boolean_for_null : Refutes (Node.boolean ∷ []) (Node.null ∷ [])
    (Value.boolean false) 1 (fault_at no_match [])
boolean_for_null = record { fitting = refl; counted = refl; faulty = refl }

-- a text and its UTF-8, and bytes that are none
string_becomes_bytes : Becomes (Node.string ∷ []) (Node.bytes ∷ [])
    (Value.string (195 ∷ 169 ∷ []))
    (Value.bytes (195 ∷ 169 ∷ []))
unfolding is_utf8 chars encode
string_becomes_bytes = record { fitting = refl; resolved = refl; stays_good = refl }

bytes_become_string : Becomes (Node.bytes ∷ []) (Node.string ∷ [])
    (Value.bytes (195 ∷ 169 ∷ []))
    (Value.string (195 ∷ 169 ∷ []))
unfolding is_utf8 chars encode
bytes_become_string = record { fitting = refl; resolved = refl; stays_good = refl }

bytes_not_utf8 : Refutes (Node.bytes ∷ []) (Node.string ∷ [])
    (Value.bytes (255 ∷ [])) 1 (fault_at not_utf8 [])
unfolding is_utf8 chars encode
bytes_not_utf8 = record { fitting = refl; counted = refl; faulty = refl }

-- a reader's union takes a value by its first branch that matches, and not by the best
int_becomes_first_branch : Becomes (Node.int ∷ []) long_or_int
    (Value.int (pos 5))
    (Value.union 0 (Value.long (pos 5)))
int_becomes_first_branch = record { fitting = refl; resolved = refl; stays_good = refl }

branches_move : Becomes long_or_int long_or_int
    (Value.union 1 (Value.int (pos 5)))
    (Value.union 0 (Value.long (pos 5)))
branches_move = record { fitting = refl; resolved = refl; stays_good = refl }

writers_branch_is_left : Becomes long_or_int (Node.long ∷ [])
    (Value.union 1 (Value.int (negsuc 4)))
    (Value.long (negsuc 4))
writers_branch_is_left = record { fitting = refl; resolved = refl; stays_good = refl }

first_branch_of_one_simple_name : Refutes one_of_int two_of_one_simple_name
    (Value.record_of (one_value (Value.int (pos 0)))) 2 (fault_at no_match (0 ∷ []))
first_branch_of_one_simple_name = record { fitting = refl; counted = refl; faulty = refl }

second_branch_for_itself : Refutes two_of_one_simple_name two_of_one_simple_name
    (Value.union 1 (Value.record_of (one_value (Value.int (pos 0))))) 3 (fault_at no_match (0 ∷ 0 ∷ []))
second_branch_for_itself = record { fitting = refl; counted = refl; faulty = refl }

no_branch_for_value : Refutes map_of_int map_of_string_union
    (Value.map_of (entry [] (Value.int (pos 0)) no_entries)) 2 (fault_at no_branch (0 ∷ []))
unfolding is_utf8 chars encode
no_branch_for_value = record { fitting = refl; counted = refl; faulty = refl }

-- the indices of symbols, and a symbol that the reader lacks
symbol_is_kept : Becomes three_symbols (two_symbols None)
    (Value.enum 2)
    (Value.enum 1)
symbol_is_kept = record { fitting = refl; resolved = refl; stays_good = refl }

symbol_is_lacking : Refutes three_symbols (two_symbols None)
    (Value.enum 1) 1 (fault_at no_symbol [])
symbol_is_lacking = record { fitting = refl; counted = refl; faulty = refl }

symbol_by_default : Becomes three_symbols (two_symbols (Some 0))
    (Value.enum 1)
    (Value.enum 0)
symbol_by_default = record { fitting = refl; resolved = refl; stays_good = refl }

symbol_before_default : Becomes three_symbols (two_symbols (Some 0))
    (Value.enum 2)
    (Value.enum 1)
symbol_before_default = record { fitting = refl; resolved = refl; stays_good = refl }

-- items that do not match make arrays without items fail too, but for a union among them
empty_array_of_others : Refutes array_of_int array_of_string
    (Value.array no_values) 1 (fault_at no_match [])
empty_array_of_others = record { fitting = refl; counted = refl; faulty = refl }

empty_array_of_union : Becomes array_of_int_union array_of_string
    (Value.array no_values)
    (Value.array no_values)
empty_array_of_union = record { fitting = refl; resolved = refl; stays_good = refl }

item_of_union : Refutes array_of_int_union array_of_string
    (Value.array (one_value (Value.union 0 (Value.int (pos 0))))) 3 (fault_at no_match (0 ∷ 0 ∷ []))
item_of_union = record { fitting = refl; counted = refl; faulty = refl }

second_item : Refutes (array_of_union_of Node.long) array_of_string
    (Value.array (two_values (Value.union 1 (Value.string [])) (Value.union 0 (Value.long (pos 0))))) 5 (fault_at no_match (1 ∷ 0 ∷ []))
unfolding is_utf8 chars encode
second_item = record { fitting = refl; counted = refl; faulty = refl }

-- records: fields by name, by alias and by default
fields_are_reordered : Becomes long_and_string string_and_long
    (Value.record_of (two_values (Value.long (pos 27)) (Value.string (codes "foo"))))
    (Value.record_of (two_values (Value.string (codes "foo")) (Value.long (pos 27))))
unfolding is_utf8 chars encode
fields_are_reordered = record { fitting = refl; resolved = refl; stays_good = refl }

names_by_alias : Becomes before_renaming after_renaming
    (Value.record_of (one_value (Value.int (pos 2))))
    (Value.record_of (one_value (Value.long (pos 2))))
names_by_alias = record { fitting = refl; resolved = refl; stays_good = refl }

names_by_writers_alias : Refutes after_renaming before_renaming
    (Value.record_of (one_value (Value.long (pos 0)))) 2 (fault_at no_match [])
names_by_writers_alias = record { fitting = refl; counted = refl; faulty = refl }

field_without_source : Refutes array_of_one (array_of_two second_field)
    (Value.array (one_value (Value.record_of (one_value (Value.int (pos 0)))))) 3 (fault_at (missing_field_at 1) (0 ∷ []))
field_without_source = record { fitting = refl; counted = refl; faulty = refl }

field_by_default : Becomes array_of_one (array_of_two second_field_by_default)
    (Value.array (one_value (Value.record_of (one_value (Value.int (pos 2))))))
    (Value.array (one_value (Value.record_of (two_values (Value.int (pos 2)) (Value.int (pos 7))))))
field_by_default = record { fitting = refl; resolved = refl; stays_good = refl }

field_before_default : Becomes (array_of_two second_field) (array_of_two second_field_by_default)
    (Value.array (one_value (Value.record_of (two_values (Value.int (pos 2)) (Value.int (pos 3))))))
    (Value.array (one_value (Value.record_of (two_values (Value.int (pos 2)) (Value.int (pos 3))))))
field_before_default = record { fitting = refl; resolved = refl; stays_good = refl }

field_is_left_out : Becomes (array_of_two second_field) array_of_one
    (Value.array (one_value (Value.record_of (two_values (Value.int (pos 2)) (Value.int (pos 3))))))
    (Value.array (one_value (Value.record_of (one_value (Value.int (pos 2))))))
field_is_left_out = record { fitting = refl; resolved = refl; stays_good = refl }

name_before_alias : Becomes (array_of_two second_field) reader_by_name_and_alias
    (Value.array (one_value (Value.record_of (two_values (Value.int (pos 2)) (Value.int (pos 3))))))
    (Value.array (one_value (Value.record_of (one_value (Value.int (pos 3))))))
name_before_alias = record { fitting = refl; resolved = refl; stays_good = refl }

missing_field_before_other_faults : Refutes record_of_int reader_of_string_and_more
    (Value.record_of (one_value (Value.int (pos 0)))) 2 (fault_at (missing_field_at 1) [])
missing_field_before_other_faults = record { fitting = refl; counted = refl; faulty = refl }

faults_in_the_writers_order : Refutes string_and_long readers_of_nulls
    (Value.record_of (two_values (Value.string []) (Value.long (pos 0)))) 3 (fault_at no_match (0 ∷ []))
unfolding is_utf8 chars encode
faults_in_the_writers_order = record { fitting = refl; counted = refl; faulty = refl }

record_for_int : Refutes record_of_int (Node.int ∷ [])
    (Value.record_of (one_value (Value.int (pos 0)))) 2 (fault_at no_match [])
record_for_int = record { fitting = refl; counted = refl; faulty = refl }

-- data of many records
links_become_longs : Becomes (linked_list Node.int) (linked_list Node.long)
    (link (Value.int (pos 1)) (Value.union 1 (link (Value.int (pos 2)) (Value.union 0 Value.null))))
    (link (Value.long (pos 1)) (Value.union 1 (link (Value.long (pos 2)) (Value.union 0 Value.null))))
links_become_longs = record { fitting = refl; resolved = refl; stays_good = refl }

longs_for_ints_in_links : Refutes (linked_list Node.long) (linked_list Node.int)
    (link (Value.long (pos 0)) (Value.union 0 Value.null)) 4 (fault_at no_match (0 ∷ []))
longs_for_ints_in_links = record { fitting = refl; counted = refl; faulty = refl }

doubled_for_no_fields : Refutes (doubled 10) no_fields
    (doubled_value 10) 3071 (fault_at no_match [])
doubled_for_no_fields = record { fitting = refl; counted = refl; faulty = refl }

doubled-depth : depth (doubled_value 10) ≡ 12
doubled-depth = refl

doubled_once_more : Refutes (doubled 11) no_fields
    (doubled_value 11) 6143 (fault_at no_match [])
doubled_once_more = record { fitting = refl; counted = refl; faulty = refl }

end_of_chain : Refutes chain_of_four chain_of_three
    chain_value 5 (fault_at no_branch (0 ∷ []))
end_of_chain = record { fitting = refl; counted = refl; faulty = refl }

end_of_chain-depth : depth chain_value ≡ 5
end_of_chain-depth = refl
