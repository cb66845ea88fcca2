-- Files and copies, computed.
use Rattle.std.proofs.Common.{refl, ℕ, pos, negsuc, true, Ok, List, [], ◌∷◌, ◌++◌, Some, codes, arith}
use Rattle.std.specs.Str.{is_utf8, chars}
use lib.Utf8.{encode}
use Rattle.serde_json.specs.Data.{Data}
use Rattle.serde_json.proofs.OnLiterals.{serde_json_on_literals}
use Rattle.avro_zigzag.proofs.public.Spelling.{SpellsLong-number_bytes, SpellsInt-number_bytes}
use Rattle.avro_schema.specs.Value.{Value, Values, no_values, value, no_entries}
use Rattle.avro_schema.specs.Node.{Node, root_of}
use Rattle.avro_schema_json.specs.DeclaredText.{DeclaresText}
use Rattle.avro_cursor.specs.Blocks.{no_more, counted}
use Rattle.avro_cursor.specs.Encoding.{Encodes}
use Rattle.avro_file.specs.File.{Property, HeaderValue, IsHeader, IsBlock, IsFile, metadata_nodes, metadata_value}
use Rattle.avro_cursor.specs.Fault.{end_of_input}
use Rattle.avro_cursor.specs.Breaks.{BlocksBreak, Head, all_left}
use Rattle.avro_zigzag.specs.NumberFault.{NumberFails}
use Rattle.avro_zigzag.specs.declared.VarError.TheVariants.{EndOfInput}
use Rattle.avro_file.specs.FileFault.{no_magic, cut_header, long_header, invalid_count, negative, bytes_left, invalid_datum}
use Rattle.avro_file.specs.BlockFails.{BlockReading, CountFails, DataAreWhole, DataFail, BlockFails}
use Rattle.avro_file.specs.HeaderFails.{HeaderFails, EndsIn, ContentWants, PropertyWants, entry_limits}
use Rattle.avro_file.specs.Copied.{Job, into, IsCopied}
use Rattle.avro_file.proofs.public.Data.{whole-none}

-- the marker 00 01 .. 0f
abbrev marker : List ℕ
marker = 0 ∷ 1 ∷ 2 ∷ 3 ∷ 4 ∷ 5 ∷ 6 ∷ 7 ∷ 8 ∷ 9 ∷ 10 ∷ 11 ∷ 12 ∷ 13 ∷ 14 ∷ 15 ∷ []

abbrev null_text : List ℕ
null_text = codes "\"null\""

abbrev schema_property : List ℕ → Property
schema_property text = record { name = codes "avro.schema"; content = text }

abbrev null_header : HeaderValue
null_header = record { nodes = Node.null ∷ []; properties = schema_property null_text ∷ []; sync = marker }

-- the file without blocks: 41 bytes
abbrev entry_bytes : List ℕ
entry_bytes = 0x16 ∷ 0x61 ∷ 0x76 ∷ 0x72 ∷ 0x6f ∷ 0x2e ∷ 0x73 ∷ 0x63 ∷ 0x68 ∷ 0x65 ∷ 0x6d ∷ 0x61 ∷ 0x0c ∷ 0x22 ∷ 0x6e ∷ 0x75 ∷ 0x6c ∷ 0x6c ∷ 0x22 ∷ []

abbrev file_41 : List ℕ
file_41 = 0x4f ∷ 0x62 ∷ 0x6a ∷ 1 ∷ 2 ∷ (entry_bytes ++ (0 ∷ marker))

null_declared : DeclaresText null_text (Node.null ∷ [])
unfolding is_utf8 chars serde_json_on_literals
null_declared = (Data.string (codes "null"), ((null_text, (refl, refl)), refl), refl)

null_metadata : Encodes metadata_nodes (root_of metadata_nodes) (metadata_value (schema_property null_text ∷ [])) (2 ∷ (entry_bytes ++ (0 ∷ [])))
unfolding is_utf8 chars encode
null_metadata = record {
  fitting = refl;
  spelled = (
    entry_bytes ∷ [],
    (
      0x16 ∷ codes "avro.schema",
      0x0c ∷ null_text,
      [],
      (0x16 ∷ [], SpellsLong-number_bytes (pos 11) refl, refl),
      (0x0c ∷ [], SpellsLong-number_bytes (pos 6) refl, refl),
      refl,
      refl,
    ),
    counted (entry_bytes ∷ []) [] (2 ∷ []) (0 ∷ []) refl (omega arith) (omega arith) (SpellsLong-number_bytes (pos 1) refl) refl
        (no_more (SpellsLong-number_bytes (pos 0) refl)),
  );
}

null_is_header : IsHeader null_header file_41
null_is_header = record {
  text = null_text;
  stands = refl;
  declares = null_declared;
  codec = refl;
  metadata = 2 ∷ (entry_bytes ++ (0 ∷ []));
  spelled = null_metadata;
  marker = refl;
  split = refl;
}

is_file_41 : IsFile null_header [] file_41
is_file_41 = record { header = file_41; rest = []; is_header = null_is_header; are_blocks = refl; split = refl }

-- with a block of three nulls after it: 59 bytes
abbrev three_nulls : Values
three_nulls = value Value.null (value Value.null (value Value.null no_values))

null_block : IsBlock null_header three_nulls (6 ∷ 0 ∷ marker)
null_block = record {
  items = [] ∷ [] ∷ [] ∷ [];
  fitting = refl;
  spelled = ([], [] ∷ [] ∷ [], refl, ([], [] ∷ [], refl, ([], [], refl, refl, refl), refl), refl);
  count = 6 ∷ [];
  size = 0 ∷ [];
  counted = (refl, SpellsLong-number_bytes (pos 3) refl);
  sized = (refl, SpellsLong-number_bytes (pos 0) refl);
  split = refl;
}

is_file_59 : IsFile null_header (three_nulls ∷ []) (file_41 ++ (6 ∷ 0 ∷ marker))
is_file_59 = record {
  header = file_41;
  rest = 6 ∷ 0 ∷ marker;
  is_header = null_is_header;
  are_blocks = (6 ∷ 0 ∷ marker, [], null_block, refl, refl);
  split = refl;
}

-- the copy of a file of one int into the union of long and int, with another marker: 69 bytes
abbrev int_header : HeaderValue
int_header = record { nodes = Node.int ∷ []; properties = schema_property (codes "\"int\"") ∷ []; sync = 1 ∷ marker }

abbrev into_union : Job
into_union = record {
  text = Some (codes "[\"long\",\"int\"]");
  sync = Some marker;
  resolve = into (Node.union (1 ∷ 2 ∷ []) ∷ Node.long ∷ Node.int ∷ []);
}

is_copy_69 : IsCopied into_union int_header (value (Value.int (pos 5)) no_values ∷ [])
    (0x4f ∷ 0x62 ∷ 0x6a ∷ 1 ∷ 2 ∷ 0x16 ∷ 0x61 ∷ 0x76 ∷ 0x72 ∷ 0x6f ∷ 0x2e ∷ 0x73 ∷ 0x63 ∷ 0x68 ∷ 0x65 ∷ 0x6d ∷ 0x61 ∷ 0x1c
    ∷ 0x5b ∷ 0x22 ∷ 0x6c ∷ 0x6f ∷ 0x6e ∷ 0x67 ∷ 0x22 ∷ 0x2c ∷ 0x22 ∷ 0x69 ∷ 0x6e ∷ 0x74 ∷ 0x22 ∷ 0x5d ∷ 0 ∷ (marker ++ (2 ∷ 4 ∷ 0 ∷ 0x0a ∷ marker)))
is_copy_69 = (
  2 ∷ 4 ∷ 0 ∷ 0x0a ∷ marker,
  (
    2 ∷ 4 ∷ 0 ∷ 0x0a ∷ marker,
    [],
    (value (Value.union 0 (Value.long (pos 5))) no_values, (Value.union 0 (Value.long (pos 5)), no_values, refl, refl, refl), refl),
    refl,
    refl,
  ),
  refl,
)

-- no byte, and another magic
no_bytes : HeaderFails 4194304 (Unit {0}) [] no_magic
no_bytes = HeaderFails.short_magic (omega arith) tt

-- the file of 41 bytes without its last byte, and with a limit of 40
abbrev cut_marker : List ℕ
cut_marker = 0 ∷ 1 ∷ 2 ∷ 3 ∷ 4 ∷ 5 ∷ 6 ∷ 7 ∷ 8 ∷ 9 ∷ 10 ∷ 11 ∷ 12 ∷ 13 ∷ 14 ∷ []

abbrev file_40 : List ℕ
file_40 = 0x4f ∷ 0x62 ∷ 0x6a ∷ 1 ∷ 2 ∷ (entry_bytes ++ (0 ∷ cut_marker))

ends_in_marker : EndsIn file_40 41
ends_in_marker = EndsIn.in_marker (schema_property null_text ∷ []) (2 ∷ (entry_bytes ++ (0 ∷ []))) cut_marker
    (record { spelled = null_metadata; split = refl }) (omega arith) refl

cut_in_marker : HeaderFails 4194304 (Unit {0}) file_40 cut_header
cut_in_marker = HeaderFails.cut 41 tt ends_in_marker (omega arith)

past_the_limit : HeaderFails 40 ⊥ file_41 long_header
past_the_limit = HeaderFails.too_long 41 ends_in_marker (omega arith)

-- the length of a name would pass the limit, whatever follows it
long_name : HeaderFails 12 ⊥ (0x4f ∷ 0x62 ∷ 0x6a ∷ 1 ∷ 2 ∷ 0x16 ∷ []) long_header
long_name = HeaderFails.too_long 17
    (EndsIn.in_metadata 13 (2 ∷ 0x16 ∷ []) refl
    (BlocksBreak.item_fails (Head.counted 1 (2 ∷ [])) 0 [] (all_left entry_limits)
    (omega arith, omega arith, omega arith, SpellsLong-number_bytes (pos 1) refl) (omega arith)
    (record {
      entries = no_entries;
      items = [];
      counted = refl;
      texts = refl;
      distinct = refl;
      fitting = refl;
      spelled = refl;
      bytes_are = refl;
      deep = omega arith;
      many = omega arith;
      long = omega arith;
      leaves = refl;
    })
    (record {
      rest = 0x16 ∷ [];
      fault = end_of_input 12;
      split = refl;
      breaks = PropertyWants.in_name (ContentWants.in_content 11 (0x16 ∷ []) []
          (record { spelled = SpellsLong-number_bytes (pos 11) refl; in_range = refl; split = refl }) (omega arith) refl);
      moved = refl;
    }))
    refl)
    (omega arith)

-- blocks of ints
abbrev one_int : BlockReading
one_int = record {
  nodes = Node.int ∷ [];
  sync = marker;
  limits = record { header = 4194304; block = 16777216; per_block = 1048576; datum = record { depth = 128; nodes = 1048576; blob = 16777216 } };
  resolve = λ v. Ok v;
  copied = true;
}

-- a count of -1
negative_count : BlockFails one_int 0 ⊥ (1 ∷ 0 ∷ marker) (invalid_count negative)
negative_count = BlockFails.count_fails (omega arith)
    (CountFails.is_negative 0 (1 ∷ []) (0 ∷ marker) (record { spelled = SpellsLong-number_bytes (negsuc 0) refl; in_range = refl; split = refl }))

no_data : DataAreWhole one_int 0 [] no_values
no_data = whole-none one_int

one_datum : DataAreWhole one_int 1 (10 ∷ []) (value (Value.int (pos 5)) no_values)
one_datum = record {
  values = value (Value.int (pos 5)) no_values;
  items = (10 ∷ []) ∷ [];
  counted = refl;
  fitting = refl;
  spelled = (10 ∷ [], [], SpellsInt-number_bytes (pos 5) refl, refl, refl);
  bytes_are = refl;
  within = refl;
  resolved = (Value.int (pos 5), no_values, refl, refl, refl);
  small = λ _. omega arith;
}

-- one datum in two bytes: bytes are left
left_behind : BlockFails one_int 0 ⊥ (2 ∷ 4 ∷ 10 ∷ 10 ∷ marker) bytes_left
left_behind = BlockFails.data_fail 1 2 (10 ∷ 10 ∷ marker) (omega arith)
    (record {
      count_bytes = 2 ∷ [];
      behind_count = 4 ∷ 10 ∷ 10 ∷ marker;
      size_bytes = 4 ∷ [];
      counted = record { spelled = SpellsLong-number_bytes (pos 1) refl; in_range = refl; split = refl };
      sized = record { spelled = SpellsLong-number_bytes (pos 2) refl; in_range = refl; split = refl };
    })
    (omega arith) (omega arith) (omega arith) refl
    (DataFail.some_left (10 ∷ []) (10 ∷ []) _ one_datum refl (omega arith))

-- two data in one byte: the second ends too early
second_is_cut : BlockFails one_int 0 ⊥ (4 ∷ 2 ∷ 10 ∷ marker) (invalid_datum 1 (end_of_input 1))
second_is_cut = BlockFails.data_fail 2 1 (10 ∷ marker) (omega arith)
    (record {
      count_bytes = 4 ∷ [];
      behind_count = 2 ∷ 10 ∷ marker;
      size_bytes = 2 ∷ [];
      counted = record { spelled = SpellsLong-number_bytes (pos 2) refl; in_range = refl; split = refl };
      sized = record { spelled = SpellsLong-number_bytes (pos 1) refl; in_range = refl; split = refl };
    })
    (omega arith) (omega arith) (omega arith) refl
    (DataFail.datum_breaks 1 (10 ∷ []) _ (end_of_input 1) (omega arith) one_datum
    (record { rest = []; fault = end_of_input 0; split = refl; breaks = (EndOfInput, NumberFails.ends refl (omega arith), refl); moved = refl }) refl)
