-- What a copy is a file of: of which header, and of which data.
use Rattle.std.specs.Prelude.{◌≡◌, ⊤, ℕ, ◌≤◌, List, [], ◌∷◌, Option, Some, None, length, map}
use Rattle.avro_schema.specs.Value.{Value, Values}
use Rattle.avro_schema.specs.Node.{Node}
use Rattle.avro_cursor.specs.Encoding.{plain_values}
use Rattle.avro_compare.specs.Resolve.{Resolved}
use Rattle.avro_file.specs.Copied.{Job, EachResolved, copied_property, into, or_else, unchanged}
use Rattle.avro_file.specs.File.{HeaderValue, IsFile}

-- a copy for a reader whose schema this text declares, and one without a reader; there may be a marker in place of the file's
abbrev pub for_reader : List ℕ → List Node → Option (List ℕ) → Job
for_reader text reader sync = record { text = Some text; sync = sync; resolve = into reader }

abbrev pub as_written : Option (List ℕ) → Job
as_written sync = record { text = None; sync = sync; resolve = unchanged }

-- a marker in place of the file's has 16 bytes
abbrev pub IsMarker : Option (List ℕ) → Type 0
IsMarker None = ⊤
IsMarker (Some sync) = length sync ≡ 16

-- what the header of the copy says, of a schema
abbrev pub header_for : Job → List Node → HeaderValue → HeaderValue
header_for job nodes h =
    record { nodes = nodes; properties = map (copied_property job.text) h.properties; sync = or_else job.sync h.sync }

-- block by block, each datum is resolved
abbrev pub AreResolved : (Value → Resolved) → List Values → List Values → Type 0
AreResolved resolve [] outs = outs ≡ []
AreResolved resolve (vs ∷ blocks) outs =
    (first : Values) × (others : List Values) × EachResolved resolve vs first × AreResolved resolve blocks others × (outs ≡ first ∷ others)

-- The bytes are a file of this header, and its data are, block by block and datum by datum, what is made of those of the blocks.
pub record IsFileOfMade (resolve : Value → Resolved) (k : HeaderValue) (blocks : List Values) (bytes : List ℕ) : Type 0 where
  pub made : List Values
  pub resolved : AreResolved resolve blocks made
  pub is_file : IsFile k made bytes

-- each datum of each block resolves, and what is made of a block has at most this many bytes as plain data
abbrev pub ResolveWithin : ℕ → (Value → Resolved) → List Values → Type 0
ResolveWithin limit resolve [] = ⊤
ResolveWithin limit resolve (vs ∷ blocks) =
    (us : Values) × EachResolved resolve vs us × (length (plain_values us) ≤ limit) × ResolveWithin limit resolve blocks
