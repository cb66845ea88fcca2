-- What is shown of a file: a line for each of its data, resolved for a reader if there is one, up to a limit.
use Rattle.std.specs.Prelude.{◌≡◌, ◌⊎◌, ℕ, ◌<◌, ◌≤◌, List, [], ◌∷◌, ◌++◌, length, Option, Some, option_map}
use Rattle.std.specs.Borrow.{Bor}
use Rattle.std.specs.List.{concat}
use Rattle.std.specs.Option.{option_copied}
use Rattle.avro_schema.specs.Node.{Node}
use Rattle.avro_schema.specs.SeenSchema.{schema_nodes}
use Rattle.avro_schema.specs.Value.{Values}
use Rattle.avro_schema.specs.declared.schema.Schema.{Schema}
use Rattle.avro_file.specs.BlockFails.{FileLimitValues, BlockFails}
use Rattle.avro_file.specs.DataRead.{read_nodes, reading, resolution}
use Rattle.avro_file.specs.File.{HeaderValue, IsFile}
use Rattle.avro_file.specs.FileFault.{FileFault, HeaderFault, BlockFault, in_header, in_block}
use Rattle.avro_file.specs.HeaderFails.{HeaderFails}
use Rattle.avro_container.specs.CopiedFile.{AreResolved}
use Rattle.avro_container.specs.Steps.{BeginsWith, total_data}
use Rattle.avro_lines.specs.Lines.{all_lines, up_to}

-- the nodes of a reader's schema, if there is one
abbrev pub nodes_of : Option (Bor Schema) → Option (List Node)
nodes_of reader = option_map schema_nodes (option_copied reader)

-- The bytes are the first lines of the data of blocks, each resolved for the reader, if there is one, and displayed by the schema
-- that it then is of.
pub record IsShown (reader : Option (List Node)) (limit : Option ℕ) (h : HeaderValue) (blocks : List Values) (bytes : List ℕ) : Type 0 where
  pub made : List Values
  pub resolved : AreResolved (resolution reader h.nodes) blocks made
  pub lines : bytes ≡ concat (up_to limit (all_lines (read_nodes h.nodes reader) made))

-- The blocks have as many data as the limit, and would not have without the last of them.
pub data HasEnough (limit : Option ℕ) (blocks : List Values) : Type 0 where
  none_asked : limit ≡ Some 0 → blocks ≡ [] → HasEnough limit blocks
  last : (most : ℕ) (front : List Values) (vs : Values) → limit ≡ Some most → blocks ≡ front ++ vs ∷ [] → total_data front < most
      → most ≤ total_data blocks → HasEnough limit blocks

-- A header and blocks within the limits were taken, and what they show was put. The input reported its end after them, or they are
-- enough, so that nothing behind them was asked for.
pub record ShowsWhole (reader : Option (List Node)) (limit : Option ℕ) (limits : FileLimitValues) (ended : Type 0) (taken put : List ℕ) : Type 0 where
  pub header : HeaderValue
  pub blocks : List Values
  pub is_file : IsFile header blocks taken
  pub within : BeginsWith limits header blocks taken []
  pub shown : IsShown reader limit header blocks put
  pub is_end : ended ⊎ HasEnough limit blocks

-- A fault is in the header or in the next block, and what was put is exactly what the blocks before it show.
pub data ShowsFault (reader : Option (List Node)) (limit : Option ℕ) (limits : FileLimitValues) (ended : Type 0) (taken put : List ℕ) : FileFault → Type 0 where
  of_header : {f : HeaderFault} → put ≡ [] → HeaderFails limits.header ended taken f → ShowsFault reader limit limits ended taken put (in_header f)
  of_block : {f : BlockFault} {n : ℕ} (h : HeaderValue) (blocks : List Values) (rest : List ℕ) → BeginsWith limits h blocks taken rest
      → length blocks ≡ n → IsShown reader limit h blocks put → BlockFails (reading limits h.nodes h.sync reader) n ended rest f
      → ShowsFault reader limit limits ended taken put (in_block n f)

-- Nothing was put, or a prefix of what the blocks show with which the bytes begin that were taken.
pub data ShowsFront (reader : Option (List Node)) (limit : Option ℕ) (limits : FileLimitValues) (taken put : List ℕ) : Type 0 where
  nothing : put ≡ [] → ShowsFront reader limit limits taken put
  of_blocks : (h : HeaderValue) (blocks : List Values) (rest whole later : List ℕ) → BeginsWith limits h blocks taken rest
      → IsShown reader limit h blocks whole → whole ≡ put ++ later → ShowsFront reader limit limits taken put
