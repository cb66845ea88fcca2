-- Which nodes match: computed, and a few derived by the rules.
use Rattle.std.proofs.Common.{◌≡◌, refl, ℕ, zero, suc, Bool, true, false, List, [], ◌∷◌, Some, None, codes}
use Rattle.avro_schema.specs.Node.{Node, root_of}
use Rattle.avro_schema.proofs.public.RowsSchemas.{simply, within, array_of_long, array_of_int, array_of_string, array_of_int_union, map_of_int, long_or_int, one_of_int, two_of_one_simple_name, before_renaming, after_renaming}
use Rattle.avro_compare.specs.Match.{Matches, int_to_long, writer_union, reader_union, arrays, records, is_match, first_match}
use Rattle.avro_compare.specs.inside.TypeNames.{passes, is_own}

-- whether the roots match
abbrev roots_match : List Node → List Node → Bool
roots_match writer reader = is_match writer reader (root_of writer) (root_of reader)

-- arrays this deep
abbrev nested : ℕ → Node → List Node
nested deep n = from 1 deep
  where
    from : ℕ → ℕ → List Node
    from id zero = n ∷ []
    from id (suc more) = Node.array id ∷ from (suc id) more

-- primitive types
int_for_long : roots_match (Node.int ∷ []) (Node.long ∷ []) ≡ true
int_for_long = refl

long_for_int : roots_match (Node.long ∷ []) (Node.int ∷ []) ≡ false
long_for_int = refl

string_for_bytes : roots_match (Node.string ∷ []) (Node.bytes ∷ []) ≡ true
string_for_bytes = refl

bytes_for_string : roots_match (Node.bytes ∷ []) (Node.string ∷ []) ≡ true
bytes_for_string = refl

null_for_boolean : roots_match (Node.null ∷ []) (Node.boolean ∷ []) ≡ false
null_for_boolean = refl

-- arrays and maps, by their items and values
ints_for_longs : roots_match array_of_int array_of_long ≡ true
ints_for_longs = refl

ints_for_strings : roots_match array_of_int array_of_string ≡ false
ints_for_strings = refl

union_items_for_strings : roots_match array_of_int_union array_of_string ≡ true
union_items_for_strings = refl

map_for_array : roots_match map_of_int array_of_int ≡ false
map_for_array = refl

deep_ints_for_longs : roots_match (nested 20 Node.int) (nested 20 Node.long) ≡ true
deep_ints_for_longs = refl

deep_ints_for_strings : roots_match (nested 20 Node.int) (nested 20 Node.string) ≡ false
deep_ints_for_strings = refl

one_array_deeper : roots_match (nested 20 Node.int) (nested 21 Node.int) ≡ false
one_array_deeper = refl

-- unions match all, whatever their branches are
writers_union : roots_match long_or_int (Node.string ∷ []) ≡ true
writers_union = refl

readers_union : roots_match (Node.string ∷ []) long_or_int ≡ true
readers_union = refl

-- names: the simple parts, or an alias of the reader's, of which the namespace counts
one_simple_name : roots_match one_of_int (Node.record_of (within (codes "p") (codes "A")) [] [] ∷ []) ≡ true
one_simple_name = refl

reader_has_alias : roots_match before_renaming after_renaming ≡ true
reader_has_alias = refl

writer_has_alias : roots_match after_renaming before_renaming ≡ false
writer_has_alias = refl

alias_in_another_namespace : roots_match before_renaming (Node.record_of (simply (codes "Q")) (within (codes "new") (codes "P") ∷ []) [] ∷ []) ≡ false
alias_in_another_namespace = refl

record_for_enum : roots_match one_of_int (Node.enum (simply (codes "A")) [] (codes "B" ∷ []) None ∷ []) ≡ false
record_for_enum = refl

-- fixed, by size too
fixed_of_one_size : roots_match (Node.fixed (within (codes "p") (codes "F")) [] 2 ∷ []) (Node.fixed (simply (codes "F")) [] 2 ∷ []) ≡ true
fixed_of_one_size = refl

fixed_of_two_sizes : roots_match (Node.fixed (simply (codes "F")) [] 2 ∷ []) (Node.fixed (simply (codes "F")) [] 3 ∷ []) ≡ false
fixed_of_two_sizes = refl

-- the first of a union's branches that matches
first_of_long_and_int : first_match (Node.int ∷ []) long_or_int Node.int (1 ∷ 2 ∷ []) ≡ Some 0
first_of_long_and_int = refl

first_of_one_simple_name : first_match one_of_int two_of_one_simple_name (root_of one_of_int) (1 ∷ 3 ∷ []) ≡ Some 0
first_of_one_simple_name = refl

first_of_none : first_match (Node.string ∷ []) long_or_int Node.string (1 ∷ 2 ∷ []) ≡ None
first_of_none = refl

-- the names that tables have: by kind, and the number of a simple name
named_record : passes two_of_one_simple_name (is_own (codes "A" ∷ []) 0 0) 3 ≡ true
named_record = refl

named_enum : passes two_of_one_simple_name (is_own (codes "A" ∷ []) 1 0) 3 ≡ false
named_enum = refl

record_of_old_name : passes after_renaming (is_own (codes "P" ∷ []) 0 0) 0 ≡ false
record_of_old_name = refl

record_of_its_name : passes after_renaming (is_own (codes "Q" ∷ []) 0 0) 0 ≡ true
record_of_its_name = refl

fixed_of_its_size : passes (Node.fixed (simply (codes "F")) [] 2 ∷ []) (is_own (codes "E" ∷ codes "F" ∷ []) 4 1) 0 ≡ true
fixed_of_its_size = refl

-- matches by the rules
ints_match_longs : Matches array_of_int array_of_long (root_of array_of_int) (root_of array_of_long)
ints_match_longs = arrays int_to_long

union_items_match_strings : Matches array_of_int_union array_of_string (root_of array_of_int_union) (root_of array_of_string)
union_items_match_strings = arrays writer_union

string_matches_union : Matches (Node.string ∷ []) long_or_int Node.string (root_of long_or_int)
string_matches_union = reader_union

renamed_records_match : Matches before_renaming after_renaming (root_of before_renaming) (root_of after_renaming)
renamed_records_match = records refl
