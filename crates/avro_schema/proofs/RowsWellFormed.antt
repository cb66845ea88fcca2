-- Lists of nodes that are schemas, and lists that are none, each for one reason: computed.
use Rattle.std.proofs.Common.{◌≡◌, refl, ℕ, pos, true, false, List, [], ◌∷◌, Option, Some, None, codes}
use Rattle.avro_schema.specs.Value.{Value, no_values}
use Rattle.avro_schema.specs.Node.{Node}
use Rattle.avro_schema.specs.WellFormed.{is_schema}
use Rattle.avro_schema.proofs.public.RowsSchemas.{simply, within, plain_field, aliased_field, default_field}

-- a schema of no nodes
no_node : is_schema [] ≡ false
no_node = refl

-- each primitive type by itself
null_alone : is_schema (Node.null ∷ []) ≡ true
null_alone = refl

string_alone : is_schema (Node.string ∷ []) ≡ true
string_alone = refl

-- a node that no edge reaches
unreached_node : is_schema (Node.int ∷ Node.string ∷ []) ≡ true
unreached_node = refl

-- edges: to a later node, out of the list, to the node itself, and back to an array or to a record
array_of_int : is_schema (Node.array 1 ∷ Node.int ∷ []) ≡ true
array_of_int = refl

edge_out_of_range : is_schema (Node.array 1 ∷ []) ≡ false
edge_out_of_range = refl

array_of_itself : is_schema (Node.array 0 ∷ []) ≡ false
array_of_itself = refl

edge_back_to_array : is_schema (Node.array 1 ∷ Node.union (2 ∷ 0 ∷ []) ∷ Node.null ∷ []) ≡ false
edge_back_to_array = refl

record_of_itself : is_schema (Node.record_of (simply (codes "R")) [] (plain_field (codes "f") 0 ∷ []) ∷ []) ≡ true
record_of_itself = refl

linked_list : is_schema
    (Node.record_of (simply (codes "Node")) [] (plain_field (codes "value") 1 ∷ plain_field (codes "next") 2 ∷ [])
    ∷ Node.int ∷ Node.union (3 ∷ 0 ∷ []) ∷ Node.null ∷ []) ≡ true
linked_list = refl

-- unions: no branch, a union in a union, two branches of one kind, two of one name, two names
union_of_nothing : is_schema (Node.union [] ∷ []) ≡ false
union_of_nothing = refl

union_in_union : is_schema (Node.union (1 ∷ 2 ∷ []) ∷ Node.int ∷ Node.union (3 ∷ []) ∷ Node.null ∷ []) ≡ false
union_in_union = refl

two_int_branches : is_schema (Node.union (1 ∷ 2 ∷ []) ∷ Node.int ∷ Node.int ∷ []) ≡ false
two_int_branches = refl

two_array_branches : is_schema (Node.union (1 ∷ 3 ∷ []) ∷ Node.array 2 ∷ Node.int ∷ Node.array 4 ∷ Node.string ∷ []) ≡ false
two_array_branches = refl

int_and_long_branches : is_schema (Node.union (1 ∷ 2 ∷ []) ∷ Node.int ∷ Node.long ∷ []) ≡ true
int_and_long_branches = refl

one_branch_twice : is_schema (Node.union (1 ∷ 1 ∷ []) ∷ Node.fixed (simply (codes "F")) [] 2 ∷ []) ≡ false
one_branch_twice = refl

two_fixed_branches : is_schema
    (Node.union (1 ∷ 2 ∷ []) ∷ Node.fixed (simply (codes "F")) [] 2 ∷ Node.fixed (simply (codes "G")) [] 2 ∷ []) ≡ true
two_fixed_branches = refl

-- enums: no symbol, a symbol twice, a symbol that is not a name, and the index of the default
abbrev enum_of : List (List ℕ) → Option ℕ → List Node
enum_of symbols default = Node.enum (simply (codes "E")) [] symbols default ∷ []

enum_of_nothing : is_schema (enum_of [] None) ≡ false
enum_of_nothing = refl

one_symbol_twice : is_schema (enum_of (codes "A" ∷ codes "B" ∷ codes "A" ∷ []) None) ≡ false
one_symbol_twice = refl

symbol_with_a_digit_first : is_schema (enum_of (codes "1A" ∷ []) None) ≡ false
symbol_with_a_digit_first = refl

last_symbol_as_default : is_schema (enum_of (codes "A" ∷ codes "B" ∷ []) (Some 1)) ≡ true
last_symbol_as_default = refl

default_past_the_symbols : is_schema (enum_of (codes "A" ∷ codes "B" ∷ []) (Some 2)) ≡ false
default_past_the_symbols = refl

-- a fixed of no bytes, of the most, and of one more
fixed_of_no_bytes : is_schema (Node.fixed (simply (codes "F")) [] 0 ∷ []) ≡ true
fixed_of_no_bytes = refl

longest_fixed : is_schema (Node.fixed (simply (codes "F")) [] 1048576 ∷ []) ≡ true
longest_fixed = refl

too_long_fixed : is_schema (Node.fixed (simply (codes "F")) [] 1048577 ∷ []) ≡ false
too_long_fixed = refl

-- the names and aliases of a record's fields
abbrev two_fields : List (List ℕ) → List ℕ → List Node
two_fields aliases second =
    Node.record_of (simply (codes "R")) []
    (aliased_field (codes "a") aliases 1 ∷ plain_field second 1 ∷ [])
    ∷ Node.int ∷ []

no_fields : is_schema (Node.record_of (simply (codes "R")) [] [] ∷ []) ≡ true
no_fields = refl

two_field_names : is_schema (two_fields (codes "c" ∷ []) (codes "b")) ≡ true
two_field_names = refl

one_field_name_twice : is_schema (two_fields [] (codes "a")) ≡ false
one_field_name_twice = refl

field_alias_is_its_name : is_schema (two_fields (codes "a" ∷ []) (codes "b")) ≡ false
field_alias_is_its_name = refl

field_alias_is_another_name : is_schema (two_fields (codes "b" ∷ []) (codes "b")) ≡ false
field_alias_is_another_name = refl

one_field_alias_twice : is_schema (two_fields (codes "c" ∷ codes "c" ∷ []) (codes "b")) ≡ false
one_field_alias_twice = refl

field_name_with_a_dot : is_schema (two_fields [] (codes "a.b")) ≡ false
field_name_with_a_dot = refl

-- defaults: one that fits, one of another kind, one out of range, and those of a union
abbrev one_default : Node → Value → List Node
one_default n v = Node.record_of (simply (codes "R")) [] (default_field (codes "f") 1 v ∷ []) ∷ n ∷ Node.null ∷ Node.int ∷ []

default_fits : is_schema (one_default Node.int (Value.int (pos 7))) ≡ true
default_fits = refl

default_of_another_kind : is_schema (one_default Node.int (Value.long (pos 7))) ≡ false
default_of_another_kind = refl

default_out_of_range : is_schema (one_default Node.int (Value.int (pos 2147483648))) ≡ false
default_out_of_range = refl

default_of_first_branch : is_schema (one_default (Node.union (2 ∷ 3 ∷ [])) (Value.union 0 Value.null)) ≡ true
default_of_first_branch = refl

default_of_second_branch : is_schema (one_default (Node.union (2 ∷ 3 ∷ [])) (Value.union 1 (Value.int (pos 3)))) ≡ true
default_of_second_branch = refl

default_of_another_branch : is_schema (one_default (Node.union (2 ∷ 3 ∷ [])) (Value.union 0 (Value.int (pos 3)))) ≡ false
default_of_another_branch = refl

default_of_no_branch : is_schema (one_default (Node.union (2 ∷ 3 ∷ [])) (Value.union 2 Value.null)) ≡ false
default_of_no_branch = refl

-- a record's default is again a record of all its fields
default_of_itself : is_schema
    (Node.record_of (simply (codes "R")) []
    (default_field (codes "f") 1 (Value.union 0 Value.null) ∷ default_field (codes "g") 3 (Value.array no_values) ∷ [])
    ∷ Node.union (2 ∷ 0 ∷ []) ∷ Node.null ∷ Node.array 0 ∷ []) ≡ true
default_of_itself = refl

-- names: one twice, in two namespaces, a primitive word, an empty part, and aliases
name_twice : is_schema
    (Node.record_of (simply (codes "R")) [] (plain_field (codes "a") 1 ∷ plain_field (codes "b") 2 ∷ [])
    ∷ Node.fixed (simply (codes "F")) [] 2 ∷ Node.fixed (simply (codes "F")) [] 2 ∷ []) ≡ false
name_twice = refl

abbrev named : List ℕ → List ℕ → List Node
named namespace simple = Node.fixed (within namespace simple) [] 2 ∷ []

name_in_two_namespaces : is_schema
    (Node.union (1 ∷ 2 ∷ []) ∷ Node.fixed (within (codes "a") (codes "F")) [] 2
    ∷ Node.fixed (within (codes "b") (codes "F")) [] 2 ∷ []) ≡ true
name_in_two_namespaces = refl

dotted_namespace : is_schema (named (codes "org.example") (codes "F")) ≡ true
dotted_namespace = refl

empty_part_in_namespace : is_schema (named (codes "org..example") (codes "F")) ≡ false
empty_part_in_namespace = refl

primitive_word_as_name : is_schema (named (codes "a") (codes "int")) ≡ false
primitive_word_as_name = refl

primitive_word_in_namespace : is_schema (named (codes "int") (codes "F")) ≡ true
primitive_word_in_namespace = refl

type_alias_twice : is_schema
    (Node.fixed (simply (codes "F")) (simply (codes "G") ∷ simply (codes "G") ∷ []) 2 ∷ []) ≡ true
type_alias_twice = refl

type_alias_is_no_name : is_schema (Node.fixed (simply (codes "F")) (simply [] ∷ []) 2 ∷ []) ≡ false
type_alias_is_no_name = refl
