-- Schemas of the rows that speak of encoding, resolution and compatibility. Each is well formed.
use Rattle.std.proofs.Common.{◌≡◌, refl, ℕ, zero, suc, ◌+◌, pos, true, List, [], ◌∷◌, Option, Some, None, codes}
use Rattle.avro_name.specs.Name.{Name}
use Rattle.avro_schema.specs.Value.{Value, Values, no_values, value}
use Rattle.avro_schema.specs.Node.{Node, FieldNode}
use Rattle.avro_schema.specs.WellFormed.{is_schema}

-- a name in the null namespace, and one in a namespace
abbrev pub simply : List ℕ → Name
simply word = record { namespace = []; simple = word }

abbrev pub within : List ℕ → List ℕ → Name
within namespace word = record { namespace = namespace; simple = word }

-- a field with neither alias nor default, with aliases, and with a default
abbrev pub plain_field : List ℕ → ℕ → FieldNode
plain_field word id = record { name = word; aliases = []; node = id; default = None }

abbrev pub aliased_field : List ℕ → List (List ℕ) → ℕ → FieldNode
aliased_field word aliases id = record { name = word; aliases = aliases; node = id; default = None }

abbrev pub default_field : List ℕ → ℕ → Value → FieldNode
default_field word id v = record { name = word; aliases = []; node = id; default = Some v }

-- values in a row
abbrev pub one_value : Value → Values
one_value v = value v no_values

abbrev pub two_values : Value → Value → Values
two_values v w = value v (value w no_values)

-- an array of nulls, of longs, of ints, of strings, and of a union of int alone
abbrev pub array_of_null : List Node
array_of_null = Node.array 1 ∷ Node.null ∷ []

array_of_null-good : is_schema array_of_null ≡ true
array_of_null-good = refl

abbrev pub array_of_long : List Node
array_of_long = Node.array 1 ∷ Node.long ∷ []

array_of_long-good : is_schema array_of_long ≡ true
array_of_long-good = refl

abbrev pub array_of_int : List Node
array_of_int = Node.array 1 ∷ Node.int ∷ []

array_of_int-good : is_schema array_of_int ≡ true
array_of_int-good = refl

abbrev pub array_of_string : List Node
array_of_string = Node.array 1 ∷ Node.string ∷ []

array_of_string-good : is_schema array_of_string ≡ true
array_of_string-good = refl

abbrev pub array_of_int_union : List Node
array_of_int_union = Node.array 1 ∷ Node.union (2 ∷ []) ∷ Node.int ∷ []

array_of_int_union-good : is_schema array_of_int_union ≡ true
array_of_int_union-good = refl

-- a map of ints, and of a union of string alone
abbrev pub map_of_int : List Node
map_of_int = Node.map_of 1 ∷ Node.int ∷ []

map_of_int-good : is_schema map_of_int ≡ true
map_of_int-good = refl

abbrev pub map_of_string_union : List Node
map_of_string_union = Node.map_of 1 ∷ Node.union (2 ∷ []) ∷ Node.string ∷ []

map_of_string_union-good : is_schema map_of_string_union ≡ true
map_of_string_union-good = refl

-- a union of long and int
abbrev pub long_or_int : List Node
long_or_int = Node.union (1 ∷ 2 ∷ []) ∷ Node.long ∷ Node.int ∷ []

long_or_int-good : is_schema long_or_int ≡ true
long_or_int-good = refl

-- a record of a long and a string, and of these in the other order
abbrev pub long_and_string : List Node
long_and_string =
    Node.record_of (simply (codes "test")) [] (plain_field (codes "a") 1 ∷ plain_field (codes "b") 2 ∷ []) ∷ Node.long ∷ Node.string ∷ []

long_and_string-good : is_schema long_and_string ≡ true
long_and_string-good = refl

abbrev pub string_and_long : List Node
string_and_long =
    Node.record_of (simply (codes "test")) [] (plain_field (codes "b") 1 ∷ plain_field (codes "a") 2 ∷ []) ∷ Node.string ∷ Node.long ∷ []

string_and_long-good : is_schema string_and_long ≡ true
string_and_long-good = refl

-- an enum of three symbols, and one without the second of them, with and without a default
abbrev pub three_symbols : List Node
three_symbols = Node.enum (simply (codes "E")) [] (codes "A" ∷ codes "B" ∷ codes "C" ∷ []) None ∷ []

three_symbols-good : is_schema three_symbols ≡ true
three_symbols-good = refl

abbrev pub two_symbols : Option ℕ → List Node
two_symbols default = Node.enum (simply (codes "E")) [] (codes "A" ∷ codes "C" ∷ []) default ∷ []

two_symbols-good : is_schema (two_symbols None) ≡ true
two_symbols-good = refl

two_symbols_by_default-good : is_schema (two_symbols (Some 0)) ≡ true
two_symbols_by_default-good = refl

-- q.A of an int alone, and after p.A of a string in a union
abbrev pub one_of_int : List Node
one_of_int = Node.record_of (within (codes "q") (codes "A")) [] (plain_field (codes "x") 1 ∷ []) ∷ Node.int ∷ []

one_of_int-good : is_schema one_of_int ≡ true
one_of_int-good = refl

abbrev pub two_of_one_simple_name : List Node
two_of_one_simple_name =
    Node.union (1 ∷ 3 ∷ [])
    ∷ Node.record_of (within (codes "p") (codes "A")) [] (plain_field (codes "x") 2 ∷ []) ∷ Node.string
    ∷ Node.record_of (within (codes "q") (codes "A")) [] (plain_field (codes "x") 4 ∷ []) ∷ Node.int ∷ []

two_of_one_simple_name-good : is_schema two_of_one_simple_name ≡ true
two_of_one_simple_name-good = refl

-- a list by a record with an edge back to itself, of ints or of longs
abbrev pub linked_list : Node → List Node
linked_list n =
    Node.record_of (simply (codes "Node")) [] (plain_field (codes "value") 1 ∷ plain_field (codes "next") 2 ∷ [])
    ∷ n ∷ Node.union (3 ∷ 0 ∷ []) ∷ Node.null ∷ []

linked_ints-good : is_schema (linked_list Node.int) ≡ true
linked_ints-good = refl

linked_longs-good : is_schema (linked_list Node.long) ≡ true
linked_longs-good = refl

-- a record whose field is that record, which has no datum, and a union of int and of it
abbrev pub record_of_itself : List Node
record_of_itself = Node.record_of (simply (codes "R")) [] (plain_field (codes "f") 0 ∷ []) ∷ []

record_of_itself-good : is_schema record_of_itself ≡ true
record_of_itself-good = refl

abbrev pub int_or_nothing : List Node
int_or_nothing = Node.union (1 ∷ 2 ∷ []) ∷ Node.int ∷ Node.record_of (simply (codes "R")) [] (plain_field (codes "f") 2 ∷ []) ∷ []

int_or_nothing-good : is_schema int_or_nothing ≡ true
int_or_nothing-good = refl

-- a number of records, each of which holds the next one twice, before one of an enum of one symbol
abbrev pub doubled_from : ℕ → ℕ → List Node
doubled_from id zero =
    Node.record_of (simply (codes "R")) [] (plain_field (codes "f") (suc id) ∷ [])
    ∷ Node.enum (simply (codes "E")) [] (codes "A" ∷ []) None ∷ []
doubled_from id (suc more) =
    Node.record_of (simply (82 ∷ (65 + more) ∷ [])) [] (plain_field (codes "a") (suc id) ∷ plain_field (codes "b") (suc id) ∷ [])
    ∷ doubled_from (suc id) more

abbrev pub doubled : ℕ → List Node
doubled times = doubled_from 0 times

doubled_ten_times-good : is_schema (doubled 10) ≡ true
doubled_ten_times-good = refl

-- its least datum
abbrev pub doubled_value : ℕ → Value
doubled_value zero = Value.record_of (one_value (Value.enum 0))
doubled_value (suc more) = let v = doubled_value more in Value.record_of (two_values v v)

-- a record without fields
abbrev pub no_fields : List Node
no_fields = Node.record_of (simply (codes "X")) [] [] ∷ []

no_fields-good : is_schema no_fields ≡ true
no_fields-good = refl

-- records in a union, each but the first of the one before: four of them, and the first three
abbrev pub chain_of_four : List Node
chain_of_four =
    Node.union (1 ∷ 2 ∷ 3 ∷ 4 ∷ [])
    ∷ Node.record_of (simply (codes "A0")) [] []
    ∷ Node.record_of (simply (codes "A1")) [] (plain_field (codes "f") 1 ∷ [])
    ∷ Node.record_of (simply (codes "A2")) [] (plain_field (codes "f") 2 ∷ [])
    ∷ Node.record_of (simply (codes "A3")) [] (plain_field (codes "f") 3 ∷ []) ∷ []

chain_of_four-good : is_schema chain_of_four ≡ true
chain_of_four-good = refl

abbrev pub chain_of_three : List Node
chain_of_three =
    Node.union (1 ∷ 2 ∷ 3 ∷ [])
    ∷ Node.record_of (simply (codes "A0")) [] []
    ∷ Node.record_of (simply (codes "A1")) [] (plain_field (codes "f") 1 ∷ [])
    ∷ Node.record_of (simply (codes "A2")) [] (plain_field (codes "f") 2 ∷ []) ∷ []

chain_of_three-good : is_schema chain_of_three ≡ true
chain_of_three-good = refl

-- an array of records of one int, and of records of two, with or without a default for the second
abbrev pub array_of_one : List Node
array_of_one = Node.array 1 ∷ Node.record_of (simply (codes "R")) [] (plain_field (codes "a") 2 ∷ []) ∷ Node.int ∷ []

array_of_one-good : is_schema array_of_one ≡ true
array_of_one-good = refl

abbrev pub array_of_two : FieldNode → List Node
array_of_two second = Node.array 1 ∷ Node.record_of (simply (codes "R")) [] (plain_field (codes "a") 2 ∷ second ∷ []) ∷ Node.int ∷ Node.int ∷ []

abbrev pub second_field : FieldNode
second_field = plain_field (codes "b") 3

abbrev pub second_field_by_default : FieldNode
second_field_by_default = default_field (codes "b") 3 (Value.int (pos 7))

array_of_two-good : is_schema (array_of_two second_field) ≡ true
array_of_two-good = refl

array_of_two_by_default-good : is_schema (array_of_two second_field_by_default) ≡ true
array_of_two_by_default-good = refl

-- a record, and one that has its name and its field's name as aliases
abbrev pub before_renaming : List Node
before_renaming = Node.record_of (within (codes "old") (codes "P")) [] (plain_field (codes "x") 1 ∷ []) ∷ Node.int ∷ []

before_renaming-good : is_schema before_renaming ≡ true
before_renaming-good = refl

abbrev pub after_renaming : List Node
after_renaming =
    Node.record_of (within (codes "new") (codes "Q")) (within (codes "old") (codes "P") ∷ [])
    (aliased_field (codes "y") (codes "x" ∷ []) 1 ∷ [])
    ∷ Node.long ∷ []

after_renaming-good : is_schema after_renaming ≡ true
after_renaming-good = refl

-- a record of one int
abbrev pub record_of_int : List Node
record_of_int = Node.record_of (simply (codes "R")) [] (plain_field (codes "x") 1 ∷ []) ∷ Node.int ∷ []

record_of_int-good : is_schema record_of_int ≡ true
record_of_int-good = refl
