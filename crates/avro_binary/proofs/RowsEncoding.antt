-- Plain encodings of data, computed, and other spellings of the same data, derived.
use Rattle.std.proofs.Common.{◌≡◌, refl, ℕ, pos, negsuc, true, false, List, [], ◌∷◌, codes, arith}
use Rattle.std.specs.Str.{is_utf8, chars}
use lib.Utf8.{encode}
use Rattle.avro_schema.specs.Value.{Value, no_values, value, no_entries, entry}
use Rattle.avro_schema.specs.Node.{root_of}
use Rattle.avro_schema.proofs.public.RowsSchemas.{one_value, two_values, array_of_long, map_of_int, long_or_int, long_and_string}
use Rattle.avro_cursor.specs.Blocks.{IsInBlocks, no_more, counted, sized}
use Rattle.avro_cursor.specs.Encoding.{Encodes, plain}
use Rattle.avro_binary.proofs.RowsNumbers.{spells}

-- some data
abbrev two_longs : Value
two_longs = Value.array (two_values (Value.long (pos 3)) (Value.long (pos 27)))

abbrev long_with_string : Value
long_with_string = Value.record_of (two_values (Value.long (pos 27)) (Value.string (codes "foo")))

abbrev two_entries : Value
two_entries = Value.map_of (entry (codes "a") (Value.int (pos 1)) (entry (codes "b") (Value.int (pos 2)) no_entries))

-- no bytes, and one
plain_null : plain Value.null ≡ []
plain_null = refl

plain_false : plain (Value.boolean false) ≡ 0 ∷ []
plain_false = refl

plain_true : plain (Value.boolean true) ≡ 1 ∷ []
plain_true = refl

-- numbers
plain_zero : plain (Value.int (pos 0)) ≡ 0 ∷ []
plain_zero = refl

plain_small : plain (Value.int (pos 64)) ≡ 0x80 ∷ 1 ∷ []
plain_small = refl

plain_negative : plain (Value.int (negsuc 63)) ≡ 0x7f ∷ []
plain_negative = refl

plain_greatest_int : plain (Value.int (pos 2147483647)) ≡ 0xfe ∷ 0xff ∷ 0xff ∷ 0xff ∷ 0x0f ∷ []
plain_greatest_int = refl

plain_least_long : plain (Value.long (negsuc 9223372036854775807))
    ≡ 0xff ∷ 0xff ∷ 0xff ∷ 0xff ∷ 0xff ∷ 0xff ∷ 0xff ∷ 0xff ∷ 0xff ∷ 1 ∷ []
plain_least_long = refl

-- contents after their length, except for a fixed
plain_string : plain (Value.string (codes "foo")) ≡ 6 ∷ 0x66 ∷ 0x6f ∷ 0x6f ∷ []
plain_string = refl

plain_no_bytes : plain (Value.bytes []) ≡ 0 ∷ []
plain_no_bytes = refl

plain_fixed : plain (Value.fixed (1 ∷ 2 ∷ [])) ≡ 1 ∷ 2 ∷ []
plain_fixed = refl

-- indices
plain_symbol : plain (Value.enum 1) ≡ 2 ∷ []
plain_symbol = refl

plain_branch : plain (Value.union 1 (Value.int (pos 5))) ≡ 2 ∷ 10 ∷ []
plain_branch = refl

-- parts in order
plain_record : plain long_with_string ≡ 0x36 ∷ 6 ∷ 0x66 ∷ 0x6f ∷ 0x6f ∷ []
plain_record = refl

plain_items_of_records : plain (Value.array (one_value (Value.record_of (one_value (Value.int (pos 2)))))) ≡ 2 ∷ 4 ∷ 0 ∷ []
plain_items_of_records = refl

plain_empty_record : plain (Value.record_of no_values) ≡ []
plain_empty_record = refl

plain_link : plain (Value.record_of (two_values (Value.int (pos 1)) (Value.union 1 (Value.record_of (two_values (Value.int (pos 2)) (Value.union 0 Value.null))))))
    ≡ 2 ∷ 2 ∷ 4 ∷ 0 ∷ []
plain_link = refl

-- one block, or none
plain_array : plain two_longs ≡ 4 ∷ 6 ∷ 0x36 ∷ 0 ∷ []
plain_array = refl

plain_empty_array : plain (Value.array no_values) ≡ 0 ∷ []
plain_empty_array = refl

plain_nulls : plain (Value.array (value Value.null (two_values Value.null Value.null))) ≡ 6 ∷ 0 ∷ []
plain_nulls = refl

plain_map : plain two_entries ≡ 4 ∷ 2 ∷ 0x61 ∷ 2 ∷ 2 ∷ 0x62 ∷ 4 ∷ 0 ∷ []
plain_map = refl

plain_empty_map : plain (Value.map_of no_entries) ≡ 0 ∷ []
plain_empty_map = refl

-- the same array in other blocks, of these items
abbrev two_items : List (List ℕ)
two_items = (6 ∷ []) ∷ (0x36 ∷ []) ∷ []

ends : IsInBlocks [] (0 ∷ [])
ends = no_more (spells (pos 0) _ refl)

in_one_block : IsInBlocks two_items (4 ∷ 6 ∷ 0x36 ∷ 0 ∷ [])
in_one_block = counted two_items [] (4 ∷ []) (0 ∷ []) refl (omega arith) (omega arith) (spells (pos 2) _ refl) refl ends

in_one_sized_block : IsInBlocks two_items (3 ∷ 4 ∷ 6 ∷ 0x36 ∷ 0 ∷ [])
in_one_sized_block = sized two_items [] (3 ∷ []) (4 ∷ []) (0 ∷ []) refl (omega arith) (omega arith) (omega arith)
    (spells (negsuc 1) _ refl) (spells (pos 2) _ refl) refl ends

second_in_a_block : IsInBlocks ((0x36 ∷ []) ∷ []) (2 ∷ 0x36 ∷ 0 ∷ [])
second_in_a_block = counted ((0x36 ∷ []) ∷ []) [] (2 ∷ []) (0 ∷ []) refl (omega arith) (omega arith) (spells (pos 1) _ refl) refl ends

in_two_blocks : IsInBlocks two_items (2 ∷ 6 ∷ 2 ∷ 0x36 ∷ 0 ∷ [])
in_two_blocks = counted ((6 ∷ []) ∷ []) ((0x36 ∷ []) ∷ []) (2 ∷ []) (2 ∷ 0x36 ∷ 0 ∷ []) refl (omega arith) (omega arith)
    (spells (pos 1) _ refl) refl second_in_a_block

in_two_blocks_of_two_kinds : IsInBlocks two_items (1 ∷ 2 ∷ 6 ∷ 2 ∷ 0x36 ∷ 0 ∷ [])
in_two_blocks_of_two_kinds = sized ((6 ∷ []) ∷ []) ((0x36 ∷ []) ∷ []) (1 ∷ []) (2 ∷ []) (2 ∷ 0x36 ∷ 0 ∷ []) refl
    (omega arith) (omega arith) (omega arith) (spells (negsuc 0) _ refl) (spells (pos 1) _ refl) refl second_in_a_block

-- in any of them it is the same datum
two_longs_in : (bytes : List ℕ) → IsInBlocks two_items bytes → Encodes array_of_long (root_of array_of_long) two_longs bytes
two_longs_in bytes blocks = record {
  fitting = refl;
  spelled = (two_items, (6 ∷ [], (0x36 ∷ []) ∷ [], spells (pos 3) _ refl, (0x36 ∷ [], [], spells (pos 27) _ refl, refl, refl), refl), blocks);
}

encodes_one_block : Encodes array_of_long (root_of array_of_long) two_longs (4 ∷ 6 ∷ 0x36 ∷ 0 ∷ [])
encodes_one_block = two_longs_in _ in_one_block

encodes_one_sized_block : Encodes array_of_long (root_of array_of_long) two_longs (3 ∷ 4 ∷ 6 ∷ 0x36 ∷ 0 ∷ [])
encodes_one_sized_block = two_longs_in _ in_one_sized_block

encodes_two_blocks : Encodes array_of_long (root_of array_of_long) two_longs (2 ∷ 6 ∷ 2 ∷ 0x36 ∷ 0 ∷ [])
encodes_two_blocks = two_longs_in _ in_two_blocks

encodes_two_kinds : Encodes array_of_long (root_of array_of_long) two_longs (1 ∷ 2 ∷ 6 ∷ 2 ∷ 0x36 ∷ 0 ∷ [])
encodes_two_kinds = two_longs_in _ in_two_blocks_of_two_kinds

encodes_no_item : Encodes array_of_long (root_of array_of_long) (Value.array no_values) (0 ∷ [])
encodes_no_item = record { fitting = refl; spelled = ([], refl, ends) }

-- a record, a branch and a map
encodes_record : Encodes long_and_string (root_of long_and_string) long_with_string (0x36 ∷ 6 ∷ 0x66 ∷ 0x6f ∷ 0x6f ∷ [])
unfolding is_utf8 chars encode
encodes_record = record {
  fitting = refl;
  spelled = (
    (0x36 ∷ []) ∷ (6 ∷ 0x66 ∷ 0x6f ∷ 0x6f ∷ []) ∷ [],
    (
      0x36 ∷ [],
      (6 ∷ 0x66 ∷ 0x6f ∷ 0x6f ∷ []) ∷ [],
      spells (pos 27) _ refl,
      (6 ∷ 0x66 ∷ 0x6f ∷ 0x6f ∷ [], [], (6 ∷ [], spells (pos 3) _ refl, refl), refl, refl),
      refl,
    ),
    refl,
  );
}

encodes_branch : Encodes long_or_int (root_of long_or_int) (Value.union 1 (Value.int (pos 64))) (2 ∷ 0x80 ∷ 1 ∷ [])
encodes_branch = record { fitting = refl; spelled = (2 ∷ [], 0x80 ∷ 1 ∷ [], spells (pos 1) _ refl, spells (pos 64) _ refl, refl) }

abbrev first_entry : List ℕ
first_entry = 2 ∷ 0x61 ∷ 2 ∷ []

abbrev second_entry : List ℕ
second_entry = 2 ∷ 0x62 ∷ 4 ∷ []

encodes_map_in_two_blocks : Encodes map_of_int (root_of map_of_int) two_entries (2 ∷ 2 ∷ 0x61 ∷ 2 ∷ 1 ∷ 6 ∷ 2 ∷ 0x62 ∷ 4 ∷ 0 ∷ [])
unfolding is_utf8 chars encode
encodes_map_in_two_blocks = record {
  fitting = refl;
  spelled = (
    first_entry ∷ second_entry ∷ [],
    (
      2 ∷ 0x61 ∷ [],
      2 ∷ [],
      second_entry ∷ [],
      (2 ∷ [], spells (pos 1) _ refl, refl),
      spells (pos 1) _ refl,
      (2 ∷ 0x62 ∷ [], 4 ∷ [], [], (2 ∷ [], spells (pos 1) _ refl, refl), spells (pos 2) _ refl, refl, refl),
      refl,
    ),
    counted (first_entry ∷ []) (second_entry ∷ []) (2 ∷ []) (1 ∷ 6 ∷ 2 ∷ 0x62 ∷ 4 ∷ 0 ∷ []) refl (omega arith) (omega arith) (spells (pos 1) _ refl) refl
        (sized (second_entry ∷ []) [] (1 ∷ []) (6 ∷ []) (0 ∷ []) refl (omega arith) (omega arith) (omega arith)
        (spells (negsuc 0) _ refl) (spells (pos 3) _ refl) refl ends),
  );
}
