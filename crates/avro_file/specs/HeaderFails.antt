-- The first fault of a file's header, read from left to right within a limit.
use Rattle.std.specs.Prelude.{◌≡◌, ◌≢◌, ℕ, ◌+◌, ◌-◌, ◌^◌, ◌<◌, ◌≤◌, max, pos, false, true, List, ◌++◌, length, take, Some, None, codes, bytes_eq}
use Rattle.std.specs.List.{list_any}
use Rattle.avro_zigzag.specs.NumberFault.{LongFails}
use Rattle.avro_zigzag.specs.declared.VarError.TheVariants.{EndOfInput}
use Rattle.avro_schema.specs.Fits.{LimitValues, is_text}
use Rattle.avro_schema.specs.Node.{Node, root_of}
use Rattle.avro_schema_json.specs.declared.error.SchemaError.{SchemaError}
use Rattle.avro_schema_json.specs.Declaration.{IsNoJson}
use Rattle.avro_schema_json.specs.TextRefusals.{IsRefusalOf}
use Rattle.avro_cursor.specs.Encoding.{Encodes, SpellsBytes}
use Rattle.avro_cursor.specs.Fault.{ReadFault, end_of_input, behind}
use Rattle.avro_cursor.specs.Breaks.{Breaks, BreaksAfter, BlocksBreak, EntriesAreWhole, Left, all_left, StartsWithLong}
use Rattle.avro_file.specs.File.{Property, property, is_plain_codec, magic, metadata_nodes, metadata_value}
use Rattle.avro_file.specs.FileFault.{HeaderFault, no_magic, invalid_metadata, no_schema, refused_schema, unknown_codec, long_header, cut_header}

-- The metadata has no limit but that of the header: no bytes that can be held exceed these.
abbrev pub no_limits : LimitValues
no_limits = record { depth = 2; nodes = 2 ^ 64; blob = 2 ^ 63 }

-- what the map leaves of these for its entries
abbrev pub entry_limits : LimitValues
entry_limits = record { depth = 1; nodes = 2 ^ 64 - 1; blob = 2 ^ 63 }

-- the first fault of the metadata
abbrev pub MetadataBreaks : List ℕ → ReadFault → Type 0
MetadataBreaks bytes f = Breaks metadata_nodes no_limits (root_of metadata_nodes) bytes f

-- this metadata stands after the magic, and then these bytes
pub record MetadataStands (properties : List Property) (bytes : List ℕ) (metadata rest : List ℕ) : Type 0 where
  pub spelled : Encodes metadata_nodes (root_of metadata_nodes) (metadata_value properties) metadata
  pub split : bytes ≡ magic ++ metadata ++ rest

-- A length or a content ends too early; the number is where the content would end, and 0 in the length.
pub data ContentWants (bytes : List ℕ) : ReadFault → Type 0 where
  in_length : LongFails bytes EndOfInput → ContentWants bytes (end_of_input 0)
  in_content : {f : ReadFault} (n : ℕ) (number rest : List ℕ) → StartsWithLong (pos n) bytes number rest → length rest < n
      → f ≡ end_of_input (length number + n) → ContentWants bytes f

-- an entry of the metadata ends too early
pub data PropertyWants (left : Left) (bytes : List ℕ) : ReadFault → Type 0 where
  in_name : {f : ReadFault} → ContentWants bytes f → PropertyWants left bytes f
  in_value : {f : ReadFault} (name front : List ℕ) → SpellsBytes name front → is_text name ≡ true → list_any (bytes_eq name) left.keys ≡ false
      → BreaksAfter ContentWants front bytes f → PropertyWants left bytes f

-- The metadata ends too early: in a content that would end there, or else in a number that begins there.
abbrev pub MetadataWants : List ℕ → ℕ → Type 0
MetadataWants bytes there =
    BlocksBreak (EntriesAreWhole metadata_nodes entry_limits Node.bytes) PropertyWants (all_left entry_limits) bytes (end_of_input there)

-- The bytes end in a part of the header, which goes on until there are this many at least.
pub data EndsIn (bytes : List ℕ) (need : ℕ) : Type 0 where
  in_metadata : (there : ℕ) (rest : List ℕ) → bytes ≡ magic ++ rest → MetadataWants rest there → need ≡ 4 + max there (length rest + 1)
      → EndsIn bytes need
  in_marker : (properties : List Property) (metadata rest : List ℕ) → MetadataStands properties bytes metadata rest
      → length rest < 16 → need ≡ 4 + length metadata + 16 → EndsIn bytes need

-- a text that declares no schema has this fault
abbrev pub HasSchemaFault : List ℕ → SchemaError → Type 0
HasSchemaFault text e = (e ≢ SchemaError.OutOfMemory) × (e ≡ SchemaError.NotJson → IsNoJson text) × IsRefusalOf text e

-- the magic, this metadata and a marker stand at the front, within the limit
pub record IsWholeWithin (limit : ℕ) (properties : List Property) (bytes : List ℕ) : Type 0 where
  pub metadata : List ℕ
  pub sync : List ℕ
  pub rest : List ℕ
  pub stands : MetadataStands properties bytes metadata (sync ++ rest)
  pub marker : length sync ≡ 16
  pub within : 4 + length metadata + 16 ≤ limit

-- the first fault of a header, in the order in which its parts are checked; `ended` says that the input reported its
-- end after the bytes
pub data HeaderFails (limit : ℕ) (ended : Type 0) (bytes : List ℕ) : HeaderFault → Type 0 where
  other_magic : 4 ≤ length bytes → take 4 bytes ≢ magic → HeaderFails limit ended bytes no_magic
  short_magic : length bytes < 4 → ended → HeaderFails limit ended bytes no_magic
  metadata_breaks : {g : ReadFault} (f : ReadFault) (rest : List ℕ) → bytes ≡ magic ++ rest → MetadataBreaks (take (limit - 4) rest) f
      → ((place : ℕ) → f ≢ end_of_input place) → g ≡ behind 4 f → HeaderFails limit ended bytes (invalid_metadata g)
  -- the magic alone is past the limit
  no_room : take 4 bytes ≡ magic → limit < 4 → HeaderFails limit ended bytes long_header
  -- the next part goes past the limit
  too_long : (need : ℕ) → EndsIn (take limit bytes) need → limit < need → HeaderFails limit ended bytes long_header
  cut : (need : ℕ) → ended → EndsIn bytes need → need ≤ limit → HeaderFails limit ended bytes cut_header
  schema_lacks : (properties : List Property) → IsWholeWithin limit properties bytes
      → property (codes "avro.schema") properties ≡ None → HeaderFails limit ended bytes no_schema
  other_codec : (properties : List Property) (text : List ℕ) → IsWholeWithin limit properties bytes
      → property (codes "avro.schema") properties ≡ Some text
      → is_plain_codec (property (codes "avro.codec") properties) ≡ false → HeaderFails limit ended bytes unknown_codec
  schema_fails : (properties : List Property) (text : List ℕ) (e : SchemaError) → IsWholeWithin limit properties bytes
      → property (codes "avro.schema") properties ≡ Some text
      → is_plain_codec (property (codes "avro.codec") properties) ≡ true → HasSchemaFault text e
      → HeaderFails limit ended bytes (refused_schema e)
