-- Object container files (Avro 1.11, "Object Container Files").
use Rattle.std.specs.Prelude.{◌≡◌, ℕ, pos, Bool, true, List, [], ◌∷◌, ◌++◌, Option, Some, None, length, bytes_eq, codes, if◌then◌else◌}
use Rattle.std.specs.List.{concat}
use Rattle.avro_schema.specs.Value.{Value, Values, Entries, no_entries, entry, values_count}
use Rattle.avro_schema.specs.Node.{Node, root_of}
use Rattle.avro_schema.specs.Fits.{each_fits}
use Rattle.avro_cursor.specs.Encoding.{EachSpelled, Encodes}
use Rattle.avro_cursor.specs.Elements.{IsLong}
use Rattle.avro_schema_json.specs.DeclaredText.{DeclaresText}

-- an entry of the metadata: a text as its bytes, and bytes
pub record Property : Type 0 where
  pub name : List ℕ
  pub content : List ℕ

-- The metadata is a datum of the schema {"type":"map","values":"bytes"}.
abbrev pub metadata_nodes : List Node
metadata_nodes = Node.map_of 1 ∷ Node.bytes ∷ []

-- the entries of the metadata as those of a map
abbrev pub property_entries : List Property → Entries
property_entries [] = no_entries
property_entries (p ∷ ps) = entry p.name (Value.bytes p.content) (property_entries ps)

-- the metadata as a datum
abbrev pub metadata_value : List Property → Value
metadata_value properties = Value.map_of (property_entries properties)

-- what stands under a name
abbrev pub property : List ℕ → List Property → Option (List ℕ)
property name [] = None
property name (p ∷ ps) = if bytes_eq p.name name then Some p.content else property name ps

-- the first four bytes of a file
abbrev pub magic : List ℕ
magic = 0x4f ∷ 0x62 ∷ 0x6a ∷ 1 ∷ []

-- the codec is null: the data of blocks are not compressed
abbrev pub is_plain_codec : Option (List ℕ) → Bool
is_plain_codec None = true
is_plain_codec (Some word) = bytes_eq word (codes "null")

-- what a header says
pub record HeaderValue : Type 0 where
  pub nodes : List Node
  pub properties : List Property
  pub sync : List ℕ

-- the bytes are a header that says this: the magic, the metadata as a map of bytes, and the sync marker
pub record IsHeader (h : HeaderValue) (bytes : List ℕ) : Type 0 where
  pub text : List ℕ
  pub stands : property (codes "avro.schema") h.properties ≡ Some text
  pub declares : DeclaresText text h.nodes
  pub codec : is_plain_codec (property (codes "avro.codec") h.properties) ≡ true
  pub metadata : List ℕ
  pub spelled : Encodes metadata_nodes (root_of metadata_nodes) (metadata_value h.properties) metadata
  pub marker : length h.sync ≡ 16
  pub split : bytes ≡ magic ++ metadata ++ h.sync

-- the bytes are a block of these data: its count, the size of the data, the data, and the marker
pub record IsBlock (h : HeaderValue) (vs : Values) (bytes : List ℕ) : Type 0 where
  pub items : List (List ℕ)
  pub fitting : each_fits h.nodes (root_of h.nodes) vs ≡ true
  pub spelled : EachSpelled vs items
  pub count : List ℕ
  pub size : List ℕ
  pub counted : IsLong (pos (values_count vs)) count
  pub sized : IsLong (pos (length (concat items))) size
  pub split : bytes ≡ count ++ (size ++ (concat items ++ h.sync))

-- one block after another
abbrev pub AreBlocks : HeaderValue → List Values → List ℕ → Type 0
AreBlocks h [] bytes = bytes ≡ []
AreBlocks h (block ∷ blocks) bytes = (first rest : List ℕ) × IsBlock h block first × AreBlocks h blocks rest × (bytes ≡ first ++ rest)

-- the bytes are a file of this header and these blocks
pub record IsFile (h : HeaderValue) (blocks : List Values) (bytes : List ℕ) : Type 0 where
  pub header : List ℕ
  pub rest : List ℕ
  pub is_header : IsHeader h header
  pub are_blocks : AreBlocks h blocks rest
  pub split : bytes ≡ header ++ rest
