-- The ends of a header, the magic and the marker, and what its metadata say.
use Rattle.std.specs.Prelude.{◌≡◌, ℕ, ◌+◌, ◌<◌, ◌≤◌, true, false, List, ◌++◌, length, take, drop, Some, None, codes}
use Rattle.avro_schema.specs.Node.{Node}
use Rattle.avro_schema_json.specs.DeclaredText.{DeclaresText}
use Rattle.avro_schema_json.specs.declared.error.SchemaError.{SchemaError}
use Rattle.avro_file.specs.File.{Property, property, is_plain_codec, magic}
use Rattle.avro_file.specs.FileFault.{FileFault, in_header, no_schema, refused_schema, unknown_codec, long_header, cut_header}
use Rattle.avro_file.specs.HeaderFails.{MetadataStands, HasSchemaFault}

-- The magic stands at the front of bytes within the limit.
pub record BeginsHeader (limit : ℕ) (bytes : List ℕ) : Type 0 where
  pub there : 4 ≤ length bytes
  pub begins : take 4 bytes ≡ magic
  pub fits : length bytes ≤ limit

-- The marker that should stand at `at` is not there.
pub data MarkerStops (limit at : ℕ) (ended : Type 0) (bytes : List ℕ) : FileFault → Type 0 where
  too_long : length bytes < at + 16 → limit < at + 16 → MarkerStops limit at ended bytes (in_header long_header)
  is_cut : length bytes < at + 16 → at + 16 ≤ limit → ended → MarkerStops limit at ended bytes (in_header cut_header)

-- Magic, metadata and marker stand at the front, and end here.
pub record FrameStands (limit : ℕ) (bytes : List ℕ) (properties : List Property) (sync : List ℕ) (end : ℕ) : Type 0 where
  pub metadata : List ℕ
  pub stands : MetadataStands properties bytes metadata (sync ++ drop end bytes)
  pub marker : length sync ≡ 16
  pub offset : end ≡ 4 + length metadata + 16
  pub inside : end ≤ length bytes
  pub within : end ≤ limit

-- The metadata have a schema, and the codec is null.
pub record SaySchema (properties : List Property) (nodes : List Node) : Type 0 where
  pub text : List ℕ
  pub stands : property (codes "avro.schema") properties ≡ Some text
  pub declares : DeclaresText text nodes
  pub codec : is_plain_codec (property (codes "avro.codec") properties) ≡ true

-- The text is not a schema.
abbrev pub IsNoSchema : List ℕ → FileFault → Type 0
IsNoSchema text f = (e : SchemaError) × (f ≡ in_header (refused_schema e)) × HasSchemaFault text e

-- What is wrong with what they say.
pub data SayNone (properties : List Property) : FileFault → Type 0 where
  schema_lacks : property (codes "avro.schema") properties ≡ None → SayNone properties (in_header no_schema)
  other_codec : (text : List ℕ) → property (codes "avro.schema") properties ≡ Some text
      → is_plain_codec (property (codes "avro.codec") properties) ≡ false → SayNone properties (in_header unknown_codec)
  schema_fails : (text : List ℕ) (e : SchemaError) → property (codes "avro.schema") properties ≡ Some text
      → is_plain_codec (property (codes "avro.codec") properties) ≡ true → HasSchemaFault text e → SayNone properties (in_header (refused_schema e))
