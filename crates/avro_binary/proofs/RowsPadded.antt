-- Encodings and first faults with padded numbers: derived.
use Rattle.std.proofs.Common.{refl, ℕ, pos, negsuc, List, [], ◌∷◌, codes, arith}
use Rattle.std.specs.Str.{is_utf8, chars}
use lib.Utf8.{encode}
use Rattle.avro_zigzag.specs.NumberFault.{too_large}
use Rattle.avro_zigzag.specs.declared.VarError.TheVariants.{OutOfRange}
use Rattle.avro_schema.specs.Value.{Value, no_entries, entry}
use Rattle.avro_schema.specs.Node.{root_of}
use Rattle.avro_schema.specs.Fits.{LimitValues}
use Rattle.avro_schema.proofs.public.RowsSchemas.{two_values, array_of_long, map_of_int, long_or_int, three_symbols}
use Rattle.avro_cursor.specs.Blocks.{IsInBlocks, no_more, counted, sized}
use Rattle.avro_cursor.specs.Encoding.{Encodes}
use Rattle.avro_cursor.specs.Fault.{invalid_number, wrong_block_size}
use Rattle.avro_cursor.specs.Breaks.{Breaks, number_breaks, size_differs}
use Rattle.avro_binary.proofs.RowsNumbers.{spells}

-- limits of common use
abbrev ample : LimitValues
ample = record { depth = 128; nodes = 1048576; blob = 16777216 }

-- 3 and 27, each in two bytes
abbrev padded_items : List (List ℕ)
padded_items = (0x86 ∷ 0 ∷ []) ∷ (0xb6 ∷ 0 ∷ []) ∷ []

abbrev two_longs : Value
two_longs = Value.array (two_values (Value.long (pos 3)) (Value.long (pos 27)))

padded_longs_in : (bytes : List ℕ) → IsInBlocks padded_items bytes → Encodes array_of_long (root_of array_of_long) two_longs bytes
padded_longs_in bytes blocks = record {
  fitting = refl;
  spelled = (padded_items, (0x86 ∷ 0 ∷ [], (0xb6 ∷ 0 ∷ []) ∷ [], spells (pos 3) _ refl, (0xb6 ∷ 0 ∷ [], [], spells (pos 27) _ refl, refl, refl), refl), blocks);
}

-- the count, the items and the closing 0
padded_block : Encodes array_of_long (root_of array_of_long) two_longs (0x84 ∷ 0 ∷ 0x86 ∷ 0 ∷ 0xb6 ∷ 0 ∷ 0x80 ∷ 0 ∷ [])
padded_block = padded_longs_in _
    (counted padded_items [] (0x84 ∷ 0 ∷ []) (0x80 ∷ 0 ∷ []) refl (omega arith) (omega arith) (spells (pos 2) _ refl) refl (no_more (spells (pos 0) _ refl)))

-- the size is that of the items as they stand
size_of_padded_items : Encodes array_of_long (root_of array_of_long) two_longs (3 ∷ 8 ∷ 0x86 ∷ 0 ∷ 0xb6 ∷ 0 ∷ 0 ∷ [])
size_of_padded_items = padded_longs_in _
    (sized padded_items [] (3 ∷ []) (8 ∷ []) (0 ∷ []) refl (omega arith) (omega arith) (omega arith) (spells (negsuc 1) _ refl) (spells (pos 4) _ refl) refl
    (no_more (spells (pos 0) _ refl)))

-- and may be padded itself
padded_size : Encodes array_of_long (root_of array_of_long) two_longs (0x83 ∷ 0 ∷ 0x88 ∷ 0x80 ∷ 0 ∷ 0x86 ∷ 0 ∷ 0xb6 ∷ 0 ∷ 0 ∷ [])
padded_size = padded_longs_in _
    (sized padded_items [] (0x83 ∷ 0 ∷ []) (0x88 ∷ 0x80 ∷ 0 ∷ []) (0 ∷ []) refl (omega arith) (omega arith) (omega arith) (spells (negsuc 1) _ refl)
    (spells (pos 4) _ refl) refl (no_more (spells (pos 0) _ refl)))

-- it is not that of the shortest spellings
size_of_shortest_items : Breaks array_of_long ample (root_of array_of_long) (3 ∷ 4 ∷ 0x86 ∷ 0 ∷ 0xb6 ∷ 0 ∷ 0 ∷ []) (wrong_block_size 1)
size_of_shortest_items = size_differs 2 2 (3 ∷ []) (4 ∷ []) (0x86 ∷ 0 ∷ 0xb6 ∷ 0 ∷ []) (0 ∷ []) _
    (omega arith, omega arith, omega arith, omega arith, spells (negsuc 1) _ refl, spells (pos 2) _ refl)
    (record {
      values = two_values (Value.long (pos 3)) (Value.long (pos 27));
      items = padded_items;
      counted = refl;
      fitting = refl;
      spelled = (0x86 ∷ 0 ∷ [], (0xb6 ∷ 0 ∷ []) ∷ [], spells (pos 3) _ refl, (0xb6 ∷ 0 ∷ [], [], spells (pos 27) _ refl, refl, refl), refl);
      bytes_are = refl;
      deep = omega arith;
      many = omega arith;
      long = omega arith;
      leaves = refl;
    })
    refl (λ e. absurd (omega (arith, e)))

-- a branch's index and its int, in five bytes each
padded_branch : Encodes long_or_int (root_of long_or_int) (Value.union 1 (Value.int (pos 5))) (0x82 ∷ 0x80 ∷ 0x80 ∷ 0x80 ∷ 0 ∷ 0x8a ∷ 0x80 ∷ 0x80 ∷ 0x80 ∷ 0 ∷ [])
padded_branch = record {
  fitting = refl;
  spelled = (0x82 ∷ 0x80 ∷ 0x80 ∷ 0x80 ∷ 0 ∷ [], 0x8a ∷ 0x80 ∷ 0x80 ∷ 0x80 ∷ 0 ∷ [], spells (pos 1) _ refl, spells (pos 5) _ refl, refl);
}

padded_symbol : Encodes three_symbols (root_of three_symbols) (Value.enum 1) (0x82 ∷ 0 ∷ [])
padded_symbol = record { fitting = refl; spelled = spells (pos 1) _ refl }

-- a sixth byte is none of an index's
six_bytes_of_symbol : Breaks three_symbols ample (root_of three_symbols) (0x82 ∷ 0x80 ∷ 0x80 ∷ 0x80 ∷ 0x80 ∷ 0 ∷ []) (invalid_number 0)
six_bytes_of_symbol = number_breaks (OutOfRange, too_large (0x82 ∷ 0x80 ∷ 0x80 ∷ 0x80 ∷ []) (0 ∷ []) 0x80 refl refl refl (omega arith), refl)

-- the count of a map, the length of a key, its value and the closing 0
abbrev padded_entry : List ℕ
padded_entry = 0x82 ∷ 0 ∷ 0x61 ∷ 0x82 ∷ 0 ∷ []

padded_map : Encodes map_of_int (root_of map_of_int) (Value.map_of (entry (codes "a") (Value.int (pos 1)) no_entries)) (0x82 ∷ 0 ∷ 0x82 ∷ 0 ∷ 0x61 ∷ 0x82 ∷ 0 ∷ 0x80 ∷ 0 ∷ [])
unfolding is_utf8 chars encode
padded_map = record {
  fitting = refl;
  spelled = (
    padded_entry ∷ [],
    (0x82 ∷ 0 ∷ 0x61 ∷ [], 0x82 ∷ 0 ∷ [], [], (0x82 ∷ 0 ∷ [], spells (pos 1) _ refl, refl), spells (pos 1) _ refl, refl, refl),
    counted (padded_entry ∷ []) [] (0x82 ∷ 0 ∷ []) (0x80 ∷ 0 ∷ []) refl (omega arith) (omega arith) (spells (pos 1) _ refl) refl (no_more (spells (pos 0) _ refl)),
  );
}
