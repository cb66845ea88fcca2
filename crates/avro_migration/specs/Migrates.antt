-- What a copy of a file for a reader did, where no datum of the file's schema fails for that reader.
use Rattle.std.specs.Prelude.{◌≡◌, ℕ, List, [], ◌++◌, Option, None}
use Rattle.avro_schema.specs.Node.{Node}
use Rattle.avro_schema.specs.Value.{Values}
use Rattle.avro_file.specs.BlockFails.{FileLimitValues}
use Rattle.avro_file.specs.Copied.{IsCopied, into}
use Rattle.avro_file.specs.File.{HeaderValue, IsHeader, IsFile}
use Rattle.avro_container.specs.Steps.{AreMadeWithin, BeginsWith}
use Rattle.avro_container.specs.CopiedFile.{for_reader, as_written, header_for, IsFileOfMade}

-- A file was taken, and a file of the reader's schema was put: its data are what resolution gives of those of the first, block by
-- block and datum by datum. A further copy of what was put changes no byte.
pub record Migrates (text : List ℕ) (reader : List Node) (sync : Option (List ℕ)) (taken put : List ℕ) : Type 0 where
  pub header : HeaderValue
  pub blocks : List Values
  pub was : IsFile header blocks taken
  pub becomes : IsFileOfMade (into reader header.nodes) (header_for (for_reader text reader sync) reader header) blocks put
  pub stays : (k : HeaderValue) (others : List Values) (again : List ℕ) → IsFile k others put → IsCopied (as_written None) k others again → again ≡ put

-- the bytes do not begin with a header of this schema
abbrev pub IsOfOther : List Node → List ℕ → Type 0
IsOfOther writer taken = (h : HeaderValue) (front rest : List ℕ) → IsHeader h front → taken ≡ front ++ rest → h.nodes ≡ writer → ⊥

-- The bytes are no front of a file of this schema within the limits whose copy is within them, too: `more` is what was not taken
-- of it, and nothing where the input has ended.
abbrev pub IsNoneWithin : FileLimitValues → List Node → List Node → Type 0 → List ℕ → Type 0
IsNoneWithin limits writer reader ended taken = (h : HeaderValue) (blocks : List Values) (more : List ℕ) → BeginsWith limits h blocks (taken ++ more) []
    → h.nodes ≡ writer → AreMadeWithin limits.block (into reader writer) blocks → (ended → more ≡ []) → ⊥
