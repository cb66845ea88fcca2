-- The first faults of bytes, with their offsets: derived.
use Rattle.std.proofs.Common.{◌≡◌, ◌<◌, inl, inr, refl, sym, ℕ, zero, suc, ◌^◌, ◌-◌, ℤ, pos, negsuc, true, List, [], ◌∷◌, append-nil, bytes_eq, codes, arith}
use Rattle.std.specs.Str.{is_utf8, chars}
use lib.Utf8.{encode}
use Rattle.avro_zigzag.specs.NumberFault.{ends, too_large}
use Rattle.avro_zigzag.specs.declared.VarError.TheVariants.{EndOfInput, OutOfRange}
use Rattle.avro_schema.specs.Value.{Value, no_values, no_entries, entry}
use Rattle.avro_schema.specs.Node.{Node, root_of}
use Rattle.avro_schema.specs.Distinct.{are_distinct}
use Rattle.avro_schema.specs.Fits.{fits, LimitValues}
use Rattle.avro_zigzag.specs.Number.{SpellsLong}
use Rattle.avro_schema.proofs.public.RowsSchemas.{simply, one_value, two_values, array_of_long, array_of_null, map_of_int, long_or_int, long_and_string, three_symbols, record_of_itself}
use Rattle.avro_cursor.specs.Fault.{ReadFault, end_of_input, invalid_number, invalid_boolean, invalid_text, unknown_index, invalid_length, wrong_block_size, duplicate_key, limit_exceeded}
use Rattle.avro_cursor.specs.Breaks.{Left, ItemsAreWhole, EntriesAreWhole, Breaks, BreaksWithin, length_breaks, negative, too_long, cut, invalid, unknown, twice, string_breaks, key_breaks, value_breaks, counted, sized, count_fails, count_least, count_over, size_fails, size_negative, head_breaks, item_fails, size_differs, later_breaks}
use Rattle.avro_binary.proofs.RunLaws.{values_run, entries_run}
use Rattle.avro_binary.proofs.RowsNumbers.{spells, starts_with}

-- limits of common use
abbrev ample : LimitValues
ample = record { depth = 128; nodes = 1048576; blob = 16777216 }

-- the first fault at the root
abbrev RootBreaks : List Node → List ℕ → ReadFault → Type 0
RootBreaks nodes bytes f = Breaks nodes ample (root_of nodes) bytes f

-- nothing whole, and one item or entry that is
no_item : {nodes : List Node} {limits : LimitValues} {n : Node} (left : Left) → ItemsAreWhole nodes limits n left 0 [] left
no_item {nodes = nodes} {limits = limits} {n = n} left = let run = values_run nodes limits n in run.whole left left [] [] (run.none left tt)

no_entry : {nodes : List Node} {limits : LimitValues} {n : Node} (left : Left) → are_distinct bytes_eq left.keys ≡ true → EntriesAreWhole nodes limits n left 0 [] left
no_entry {nodes = nodes} {limits = limits} {n = n} left apart = let run = entries_run nodes limits n in run.whole left left [] [] (run.none left apart)

abbrev inside : LimitValues
inside = record { depth = 127; nodes = 1048575; blob = 16777216 }

one_long : (v : ℤ) (item : List ℕ) (n : ℕ) → fits array_of_long Node.long (Value.long v) ≡ true → SpellsLong v item → 0 < n
    → ItemsAreWhole array_of_long inside Node.long (record { nodes = n; keys = [] }) 1 item (record { nodes = n - 1; keys = [] })
one_long v item n h s some = record {
  values = one_value (Value.long v);
  items = item ∷ [];
  counted = refl;
  fitting = rw h refl;
  spelled = (item, [], s, refl, refl);
  bytes_are = sym (append-nil item);
  deep = omega arith;
  many = omega arith;
  long = omega arith;
  leaves = refl;
}

entry_of_a : EntriesAreWhole map_of_int inside Node.int (record { nodes = 1048575; keys = [] }) 1 (2 ∷ 0x61 ∷ 2 ∷ []) (record { nodes = 1048574; keys = codes "a" ∷ [] })
unfolding is_utf8 chars encode
entry_of_a = record {
  entries = entry (codes "a") (Value.int (pos 1)) no_entries;
  items = (2 ∷ 0x61 ∷ 2 ∷ []) ∷ [];
  counted = refl;
  texts = refl;
  distinct = refl;
  fitting = refl;
  spelled = (2 ∷ 0x61 ∷ [], 2 ∷ [], [], (2 ∷ [], spells (pos 1) _ refl, refl), spells (pos 1) _ refl, refl, refl);
  bytes_are = refl;
  deep = omega arith;
  many = omega arith;
  long = omega arith;
  leaves = refl;
}

-- booleans
boolean_over_one : RootBreaks (Node.boolean ∷ []) (2 ∷ []) (invalid_boolean 0)
boolean_over_one = (omega arith, refl)

boolean_of_no_byte : RootBreaks (Node.boolean ∷ []) [] (end_of_input 0)
boolean_of_no_byte = refl

-- numbers
int_of_no_byte : RootBreaks (Node.int ∷ []) [] (end_of_input 0)
int_of_no_byte = (EndOfInput, ends refl (omega arith), refl)

int_goes_on : RootBreaks (Node.int ∷ []) (0x80 ∷ []) (end_of_input 0)
int_goes_on = (EndOfInput, ends refl (omega arith), refl)

int_too_large : RootBreaks (Node.int ∷ []) (0xff ∷ 0xff ∷ 0xff ∷ 0xff ∷ 0x10 ∷ []) (invalid_number 0)
int_too_large = (OutOfRange, too_large (0xff ∷ 0xff ∷ 0xff ∷ 0xff ∷ []) [] 0x10 refl refl refl (omega arith), refl)

-- contents: the length, its sign, the limit, the end, and the text, in this order
length_goes_on : RootBreaks (Node.bytes ∷ []) (0xff ∷ []) (end_of_input 0)
length_goes_on = length_breaks (EndOfInput, ends refl (omega arith), refl)

negative_length : RootBreaks (Node.bytes ∷ []) (1 ∷ 5 ∷ []) (invalid_length 0)
negative_length = negative 0 (1 ∷ []) (5 ∷ []) (starts_with (negsuc 0) _ _ refl refl)

content_past_limit : Breaks (Node.bytes ∷ []) (record { depth = 128; nodes = 1048576; blob = 2 }) Node.bytes (6 ∷ 5 ∷ []) limit_exceeded
content_past_limit = too_long 3 (6 ∷ []) (5 ∷ []) (starts_with (pos 3) _ _ refl refl) (omega arith)

content_cut : RootBreaks (Node.bytes ∷ []) (6 ∷ 5 ∷ []) (end_of_input 1)
content_cut = cut 3 (6 ∷ []) (5 ∷ []) (starts_with (pos 3) _ _ refl refl) (omega arith) (omega arith)

text_not_utf8 : RootBreaks (Node.string ∷ []) (2 ∷ 0xff ∷ []) (invalid_text 1)
unfolding is_utf8 chars encode
text_not_utf8 = invalid 1 (2 ∷ []) (0xff ∷ []) (starts_with (pos 1) _ _ refl refl) (omega arith) (omega arith) refl

-- a fixed of two bytes
abbrev fixed_of_two : List Node
fixed_of_two = Node.fixed (simply (codes "F")) [] 2 ∷ []

fixed_cut : RootBreaks fixed_of_two (5 ∷ []) (end_of_input 0)
fixed_cut = inr (omega arith, omega arith, refl)

fixed_past_limit : Breaks fixed_of_two (record { depth = 128; nodes = 1048576; blob = 1 }) (root_of fixed_of_two) [] limit_exceeded
fixed_past_limit = inl (omega arith, refl)

-- symbols and branches
symbol_past_the_last : RootBreaks three_symbols (6 ∷ []) (unknown_index 0)
symbol_past_the_last = unknown (pos 3) (6 ∷ []) [] (spells (pos 3) _ refl) refl refl refl

negative_branch : RootBreaks long_or_int (1 ∷ []) (unknown_index 0)
negative_branch = inl (unknown (negsuc 0) (1 ∷ []) [] (spells (negsuc 0) _ refl) refl refl refl)

branch_cut : RootBreaks long_or_int (2 ∷ 0x80 ∷ []) (end_of_input 1)
branch_cut = inr (record {
  before = 1 ∷ [];
  branch = 2;
  after = [];
  ids_are = refl;
  number = 2 ∷ [];
  spelled = spells (pos 1) _ refl;
  breaks = record { rest = 0x80 ∷ []; fault = end_of_input 0; split = refl; breaks = (EndOfInput, ends refl (omega arith), refl); moved = refl };
})

-- a record: the second field's content is cut
second_field_cut : RootBreaks long_and_string (0x36 ∷ 6 ∷ 0x66 ∷ 0x6f ∷ []) (end_of_input 2)
second_field_cut = record {
  before = 1 ∷ [];
  field = 2;
  after = [];
  ids_are = refl;
  values = one_value (Value.long (pos 27));
  items = (0x36 ∷ []) ∷ [];
  fitting = refl;
  spelled = (0x36 ∷ [], [], spells (pos 27) _ refl, refl, refl);
  deep = omega arith;
  many = omega arith;
  long = omega arith;
  breaks = record {
    rest = 6 ∷ 0x66 ∷ 0x6f ∷ [];
    fault = end_of_input 1;
    split = refl;
    breaks = cut 3 (6 ∷ []) (0x66 ∷ 0x6f ∷ []) (starts_with (pos 3) _ _ refl refl) (omega arith) (omega arith);
    moved = refl;
  };
}

-- a record that holds itself, at any limits: of its field nothing is whole, whatever the bytes are
record_of_itself_within : (depth nodes blob : ℕ) (bytes : List ℕ)
    → BreaksWithin record_of_itself depth nodes blob (root_of record_of_itself) bytes limit_exceeded
record_of_itself_within zero nodes blob bytes = refl
record_of_itself_within (suc depth) zero blob bytes = refl
record_of_itself_within (suc depth) (suc nodes) blob bytes = record {
  before = [];
  field = 0;
  after = [];
  ids_are = refl;
  values = no_values;
  items = [];
  fitting = refl;
  spelled = refl;
  deep = omega arith;
  many = omega arith;
  long = omega arith;
  breaks = record { rest = bytes; fault = limit_exceeded; split = refl; breaks = record_of_itself_within depth (nodes - 0) blob bytes; moved = refl };
}

record_of_itself_three_deep : (bytes : List ℕ)
    → Breaks record_of_itself (record { depth = 3; nodes = 100; blob = 100 }) (root_of record_of_itself) bytes limit_exceeded
record_of_itself_three_deep bytes = record_of_itself_within 3 100 100 bytes

-- the least long of all, and the greatest power of two among longs
abbrev least_long : List ℕ
least_long = 0xff ∷ 0xff ∷ 0xff ∷ 0xff ∷ 0xff ∷ 0xff ∷ 0xff ∷ 0xff ∷ 0xff ∷ 1 ∷ []

abbrev great_power : List ℕ
great_power = 0x80 ∷ 0x80 ∷ 0x80 ∷ 0x80 ∷ 0x80 ∷ 0x80 ∷ 0x80 ∷ 0x80 ∷ 0x80 ∷ 1 ∷ []

-- the head of a block: its count, the count's limit, and only then its size
count_of_no_byte : RootBreaks array_of_long [] (end_of_input 0)
count_of_no_byte = head_breaks (count_fails (EndOfInput, ends refl (omega arith), refl))

least_count_of_all : RootBreaks array_of_null least_long (invalid_length 0)
least_count_of_all = head_breaks (count_least least_long [] (starts_with (negsuc (2 ^ 63 - 1)) least_long [] refl refl))

great_count : RootBreaks array_of_null great_power limit_exceeded
great_count = head_breaks (count_over (pos (2 ^ 62)) great_power [] (starts_with (pos (2 ^ 62)) great_power [] refl refl) (λ e. cc) (omega arith))

-- the array is a node too, so that of three nodes two are left
three_items_of_two_left : Breaks array_of_null (record { depth = 2; nodes = 3; blob = 1 }) (root_of array_of_null) (6 ∷ 0 ∷ []) limit_exceeded
three_items_of_two_left = head_breaks (count_over (pos 3) (6 ∷ []) (0 ∷ []) (starts_with (pos 3) _ _ refl refl) (λ e. cc) (omega arith))

limit_before_size : Breaks array_of_null (record { depth = 2; nodes = 3; blob = 1 }) (root_of array_of_null) (5 ∷ []) limit_exceeded
limit_before_size = head_breaks (count_over (negsuc 2) (5 ∷ []) [] (starts_with (negsuc 2) _ _ refl refl) (λ e. cc) (omega arith))

size_of_no_byte : RootBreaks array_of_long (3 ∷ []) (end_of_input 1)
size_of_no_byte = head_breaks (size_fails 1 (3 ∷ []) (spells (negsuc 1) _ refl) (omega arith) (omega arith)
    (record { rest = []; fault = end_of_input 0; split = refl; breaks = (EndOfInput, ends refl (omega arith), refl); moved = refl }))

size_below_zero : RootBreaks array_of_long (3 ∷ 1 ∷ 6 ∷ []) (invalid_length 1)
size_below_zero = head_breaks (size_negative 1 0 (3 ∷ []) (1 ∷ []) (1 ∷ 6 ∷ []) (6 ∷ []) (spells (negsuc 1) _ refl) (omega arith) (omega arith) refl
    (starts_with (negsuc 0) _ _ refl refl))

-- the items stand there, in fewer bytes than the block says
size_too_large : RootBreaks array_of_long (3 ∷ 6 ∷ 6 ∷ 0x36 ∷ 0 ∷ []) (wrong_block_size 1)
size_too_large = size_differs 2 3 (3 ∷ []) (6 ∷ []) (6 ∷ 0x36 ∷ []) (0 ∷ []) _
    (omega arith, omega arith, omega arith, omega arith, spells (negsuc 1) _ refl, spells (pos 3) _ refl)
    (record {
      values = two_values (Value.long (pos 3)) (Value.long (pos 27));
      items = (6 ∷ []) ∷ (0x36 ∷ []) ∷ [];
      counted = refl;
      fitting = refl;
      spelled = (6 ∷ [], (0x36 ∷ []) ∷ [], spells (pos 3) _ refl, (0x36 ∷ [], [], spells (pos 27) _ refl, refl, refl), refl);
      bytes_are = refl;
      deep = omega arith;
      many = omega arith;
      long = omega arith;
      leaves = refl;
    })
    refl (λ e. absurd (omega (arith, e)))

-- the size does not matter before the items are read
item_cut_in_a_sized_block : RootBreaks array_of_long (3 ∷ 2 ∷ 6 ∷ 0x80 ∷ []) (end_of_input 3)
item_cut_in_a_sized_block = item_fails (sized 2 1 (3 ∷ []) (2 ∷ [])) 1 (6 ∷ []) (record { nodes = 1048574; keys = [] })
    (omega arith, omega arith, omega arith, omega arith, spells (negsuc 1) _ refl, spells (pos 1) _ refl)
    (omega arith)
    (one_long (pos 3) (6 ∷ []) 1048575 refl (spells (pos 3) _ refl) (omega arith))
    (record { rest = 0x80 ∷ []; fault = end_of_input 0; split = refl; breaks = (EndOfInput, ends refl (omega arith), refl); moved = refl })

-- a later block breaks, at its offset in all the bytes
second_block_breaks : RootBreaks array_of_long (2 ∷ 6 ∷ 1 ∷ 4 ∷ 0x36 ∷ 0 ∷ []) (wrong_block_size 3)
second_block_breaks = later_breaks (counted 1 (2 ∷ [])) (6 ∷ []) (1 ∷ 4 ∷ 0x36 ∷ 0 ∷ []) (record { nodes = 1048574; keys = [] }) (wrong_block_size 1)
    (omega arith, omega arith, omega arith, spells (pos 1) _ refl)
    (one_long (pos 3) (6 ∷ []) 1048575 refl (spells (pos 3) _ refl) (omega arith))
    tt refl
    (size_differs 1 2 (1 ∷ []) (4 ∷ []) (0x36 ∷ []) (0 ∷ []) _
    (omega arith, omega arith, omega arith, omega arith, spells (negsuc 0) _ refl, spells (pos 2) _ refl)
    (one_long (pos 27) (0x36 ∷ []) 1048574 refl (spells (pos 27) _ refl) (omega arith))
    refl (λ e. absurd (omega (arith, e))))
    refl

-- the items of earlier blocks count: of three nodes one is the array, one an item, and two more are too many
second_block_past_limit : Breaks array_of_null (record { depth = 2; nodes = 3; blob = 1 }) (root_of array_of_null) (2 ∷ 4 ∷ 0 ∷ []) limit_exceeded
second_block_past_limit = later_breaks (counted 1 (2 ∷ [])) [] (4 ∷ 0 ∷ []) (record { nodes = 1; keys = [] }) limit_exceeded
    (omega arith, omega arith, omega arith, spells (pos 1) _ refl)
    (record {
      values = one_value Value.null;
      items = [] ∷ [];
      counted = refl;
      fitting = refl;
      spelled = ([], [], refl, refl, refl);
      bytes_are = refl;
      deep = omega arith;
      many = omega arith;
      long = omega arith;
      leaves = refl;
    })
    tt refl
    (head_breaks (count_over (pos 2) (4 ∷ []) (0 ∷ []) (starts_with (pos 2) _ _ refl refl) (λ e. cc) (omega arith)))
    refl

-- where one level is left for the array, none is for an item
item_too_deep : Breaks array_of_long (record { depth = 1; nodes = 9; blob = 1 }) (root_of array_of_long) (2 ∷ 6 ∷ 0 ∷ []) limit_exceeded
item_too_deep = item_fails (counted 1 (2 ∷ [])) 0 [] _ (omega arith, omega arith, omega arith, spells (pos 1) _ refl) (omega arith)
    (no_item _)
    (record { rest = 6 ∷ 0 ∷ []; fault = limit_exceeded; split = refl; breaks = refl; moved = refl })

-- a map: the key of an entry that occurs before, in this block or an earlier one
key_twice : RootBreaks map_of_int (4 ∷ 2 ∷ 0x61 ∷ 2 ∷ 2 ∷ 0x61 ∷ 4 ∷ 0 ∷ []) (duplicate_key 4)
unfolding is_utf8 chars encode
key_twice = item_fails (counted 2 (4 ∷ [])) 1 (2 ∷ 0x61 ∷ 2 ∷ []) _ (omega arith, omega arith, omega arith, spells (pos 2) _ refl) (omega arith)
    entry_of_a
    (record {
      rest = 2 ∷ 0x61 ∷ 4 ∷ 0 ∷ [];
      fault = duplicate_key 0;
      split = refl;
      breaks = key_breaks (twice (codes "a") (2 ∷ 0x61 ∷ []) (4 ∷ 0 ∷ []) (2 ∷ [], spells (pos 1) _ refl, refl) refl (omega arith) refl refl);
      moved = refl;
    })

key_twice_in_two_blocks : RootBreaks map_of_int (2 ∷ 2 ∷ 0x61 ∷ 2 ∷ 2 ∷ 2 ∷ 0x61 ∷ 4 ∷ 0 ∷ []) (duplicate_key 5)
unfolding is_utf8 chars encode
key_twice_in_two_blocks = later_breaks (counted 1 (2 ∷ [])) (2 ∷ 0x61 ∷ 2 ∷ []) (2 ∷ 2 ∷ 0x61 ∷ 4 ∷ 0 ∷ [])
    (record { nodes = 1048574; keys = codes "a" ∷ [] }) (duplicate_key 1)
    (omega arith, omega arith, omega arith, spells (pos 1) _ refl)
    entry_of_a
    tt refl
    (item_fails (counted 1 (2 ∷ [])) 0 [] _ (omega arith, omega arith, omega arith, spells (pos 1) _ refl) (omega arith)
    (no_entry _ refl)
    (record {
      rest = 2 ∷ 0x61 ∷ 4 ∷ 0 ∷ [];
      fault = duplicate_key 0;
      split = refl;
      breaks = key_breaks (twice (codes "a") (2 ∷ 0x61 ∷ []) (4 ∷ 0 ∷ []) (2 ∷ [], spells (pos 1) _ refl, refl) refl (omega arith) refl refl);
      moved = refl;
    }))
    refl

-- an entry's key is no text, or its value is cut
key_not_utf8 : RootBreaks map_of_int (2 ∷ 2 ∷ 0xff ∷ []) (invalid_text 2)
unfolding is_utf8 chars encode
key_not_utf8 = item_fails (counted 1 (2 ∷ [])) 0 [] _ (omega arith, omega arith, omega arith, spells (pos 1) _ refl) (omega arith)
    (no_entry _ refl)
    (record {
      rest = 2 ∷ 0xff ∷ [];
      fault = invalid_text 1;
      split = refl;
      breaks = key_breaks (string_breaks (invalid 1 (2 ∷ []) (0xff ∷ []) (starts_with (pos 1) _ _ refl refl) (omega arith) (omega arith) refl));
      moved = refl;
    })

value_cut : RootBreaks map_of_int (2 ∷ 2 ∷ 0x61 ∷ 0x80 ∷ []) (end_of_input 3)
unfolding is_utf8 chars encode
value_cut = item_fails (counted 1 (2 ∷ [])) 0 [] (record { nodes = 1048575; keys = [] }) (omega arith, omega arith, omega arith, spells (pos 1) _ refl) (omega arith)
    (no_entry _ refl)
    (record {
      rest = 2 ∷ 0x61 ∷ 0x80 ∷ [];
      fault = end_of_input 2;
      split = refl;
      breaks = value_breaks (codes "a") (2 ∷ 0x61 ∷ []) (2 ∷ [], spells (pos 1) _ refl, refl) refl (omega arith) refl
          (record { rest = 0x80 ∷ []; fault = end_of_input 0; split = refl; breaks = (EndOfInput, ends refl (omega arith), refl); moved = refl });
      moved = refl;
    })
