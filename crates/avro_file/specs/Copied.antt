-- The copy of a file: plain encodings throughout, each datum resolved if there is a reader.
use Rattle.std.specs.Prelude.{◌≡◌, ℕ, pos, List, [], ◌∷◌, ◌++◌, Option, Some, None, length, bytes_eq, codes, map, if◌then◌else◌, Ok}
use Rattle.avro_zigzag.specs.Number.{number_bytes}
use Rattle.avro_schema.specs.Value.{Value, Values, no_values, value, values_count}
use Rattle.avro_schema.specs.Node.{Node}
use Rattle.avro_cursor.specs.Encoding.{plain, plain_values}
use Rattle.avro_compare.specs.Resolve.{Resolved, resolve_root}
use Rattle.avro_file.specs.File.{Property, HeaderValue, metadata_value, magic}

-- How data are resolved: a datum of the schema in the file, and what is made of it.
abbrev pub Resolution : Type 0
Resolution = List Node → Value → Resolved

-- a datum as it was
abbrev pub unchanged : Resolution
unchanged nodes v = Ok v

-- a datum resolved to a reader's schema
abbrev pub into : List Node → Resolution
into reader nodes v = resolve_root nodes reader v

-- what is asked of a copy: the text in place of the schema's, the marker in place of the file's
pub record Job : Type 0 where
  pub text : Option (List ℕ)
  pub sync : Option (List ℕ)
  pub resolve : Resolution

-- the first bytes if there are any, otherwise the second
abbrev pub or_else : Option (List ℕ) → List ℕ → List ℕ
or_else None b = b
or_else (Some a) b = a

-- an entry of the metadata in a copy: the schema's text may be another
abbrev pub copied_property : Option (List ℕ) → Property → Property
copied_property text p = if bytes_eq p.name (codes "avro.schema") then record p { content = or_else text p.content } else p

-- the header of a copy, with the metadata in one block
abbrev pub copied_header : Job → HeaderValue → List ℕ
copied_header job h = magic ++ (plain (metadata_value (map (copied_property job.text) h.properties)) ++ or_else job.sync h.sync)

-- the bytes of a block of these data, in plain encoding
abbrev pub block_bytes : List ℕ → Values → List ℕ
block_bytes sync vs = number_bytes (pos (values_count vs)) ++ (number_bytes (pos (length (plain_values vs))) ++ (plain_values vs ++ sync))

-- each datum is resolved
abbrev pub EachResolved : (Value → Resolved) → Values → Values → Type 0
EachResolved resolve no_values us = us ≡ no_values
EachResolved resolve (value v vs) us =
    (first : Value) × (others : Values) × (resolve v ≡ Ok first) × EachResolved resolve vs others × (us ≡ value first others)

-- the copy of a block, whose data are in plain encoding, resolved or as they were
abbrev pub IsCopiedBlock : Job → HeaderValue → Values → List ℕ → Type 0
IsCopiedBlock job h vs bytes = (us : Values) × EachResolved (job.resolve h.nodes) vs us × (bytes ≡ block_bytes (or_else job.sync h.sync) us)

-- the copies of several blocks, one after another
abbrev pub AreCopiedBlocks : Job → HeaderValue → List Values → List ℕ → Type 0
AreCopiedBlocks job h [] bytes = bytes ≡ []
AreCopiedBlocks job h (block ∷ blocks) bytes = (first rest : List ℕ) × IsCopiedBlock job h block first × AreCopiedBlocks job h blocks rest × (bytes ≡ first ++ rest)

-- the file that a copy writes: its header, and the copies of its blocks
abbrev pub IsCopied : Job → HeaderValue → List Values → List ℕ → Type 0
IsCopied job h blocks bytes = (rest : List ℕ) × AreCopiedBlocks job h blocks rest × (bytes ≡ copied_header job h ++ rest)
