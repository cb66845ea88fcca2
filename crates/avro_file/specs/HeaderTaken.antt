-- What taking a header moves, where `gives` says which bytes an input moved between two states.
use Rattle.std.specs.Prelude.{◌≡◌, ℕ, ◌≤◌, Bool, true, false, List, Some, length}
use Rattle.avro_schema.specs.SeenSchema.{schema_nodes}
use Rattle.avro_file.specs.File.{HeaderValue, IsHeader, Property}
use Rattle.avro_file.specs.FileFault.{FileFault, HeaderFault, in_header, in_block, no_magic, invalid_metadata, no_schema, refused_schema, unknown_codec, long_header, cut_header}
use Rattle.avro_file.specs.FileSeen.{file_fault}
use Rattle.avro_file.specs.HeaderFails.{HeaderFails, MetadataStands}
use Rattle.avro_file.specs.Parts.{properties_of}
use Rattle.avro_file.specs.declared.error.CopyError.{CopyError}
use Rattle.avro_file.specs.declared.header.Header.{Header}

-- what a header says, as contracts see it
abbrev pub header_value : Header → HeaderValue
header_value h = record { nodes = schema_nodes h.schema; properties = properties_of h.metadata.items; sync = h.sync }

-- exactly this header was taken from an input, within its limit
pub record TakesHeader {I : Type 0} (gives : I → List ℕ → I → Type 0) (from to : I) (limit : ℕ) (h : HeaderValue) : Type 0 where
  pub bytes : List ℕ
  pub taken : gives from bytes to
  pub stands : IsHeader h bytes
  pub within : length bytes ≤ limit

-- a fault of the header of these bytes
abbrev pub IsHeaderFault : ℕ → Type 0 → List ℕ → FileFault → Type 0
IsHeaderFault limit ended bytes f = (g : HeaderFault) × (f ≡ in_header g) × HeaderFails limit ended bytes g

-- what was taken from an input has the fault of the header
pub record TakesHeaderFault {I : Type 0} (gives : I → List ℕ → I → Type 0) (ended : I → Type 0) (from to : I) (limit : ℕ) (fault : FileFault) : Type 0 where
  pub bytes : List ℕ
  pub taken : gives from bytes to
  pub stands : IsHeaderFault limit (ended to) bytes fault

-- exactly the magic, this metadata and a marker within the limit were taken, whatever the metadata says
pub record TakesMetadata {I : Type 0} (gives : I → List ℕ → I → Type 0) (from to : I) (limit : ℕ) (properties : List Property) : Type 0 where
  pub bytes : List ℕ
  pub metadata : List ℕ
  pub sync : List ℕ
  pub taken : gives from bytes to
  pub stands : MetadataStands properties bytes metadata sync
  pub marker : length sync ≡ 16
  pub within : length bytes ≤ limit

-- a fault of the magic, the metadata or the marker, and none of what the metadata says
abbrev pub is_of_frame : FileFault → Bool
is_of_frame (in_header no_magic) = true
is_of_frame (in_header (invalid_metadata f)) = true
is_of_frame (in_header no_schema) = false
is_of_frame (in_header (refused_schema e)) = false
is_of_frame (in_header unknown_codec) = false
is_of_frame (in_header long_header) = true
is_of_frame (in_header cut_header) = true
is_of_frame (in_block n f) = false

-- an error reports such a fault or none
abbrev pub IsOfFrame : CopyError → Type 0
IsOfFrame e = (f : FileFault) → file_fault e ≡ Some f → is_of_frame f ≡ true
