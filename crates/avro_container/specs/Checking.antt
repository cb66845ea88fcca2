-- What checking a file takes and answers.
use Rattle.std.specs.Prelude.{◌≡◌, ℕ, List, [], length, None}
use Rattle.avro_schema.specs.Value.{Values}
use Rattle.avro_file.specs.BlockFails.{FileLimitValues, BlockFails, BlockReading}
use Rattle.avro_file.specs.DataRead.{reading}
use Rattle.avro_file.specs.File.{HeaderValue, IsFile}
use Rattle.avro_file.specs.FileFault.{FileFault, HeaderFault, BlockFault, in_header, in_block}
use Rattle.avro_file.specs.HeaderFails.{HeaderFails}
use Rattle.avro_container.specs.Steps.{BeginsWith, total_data}

-- some bytes were taken, of which this holds
pub record Takes {I : Type 0} (gives : I → List ℕ → I → Type 0) (from to : I) (holds : List ℕ → Type 0) : Type 0 where
  pub taken : List ℕ
  pub is_taken : gives from taken to
  pub does : holds taken

-- the data of a header's file, read as they are
abbrev pub reading_in : FileLimitValues → HeaderValue → BlockReading
reading_in limits h = reading limits h.nodes h.sync None

-- The bytes are a whole file within the limits, with so many data and blocks; the input has reported its end.
pub record IsWhole (limits : FileLimitValues) (ended : Type 0) (data_count block_count : ℕ) (bytes : List ℕ) : Type 0 where
  pub header : HeaderValue
  pub blocks : List Values
  pub is_file : IsFile header blocks bytes
  pub within : BeginsWith limits header blocks bytes []
  pub items_are : total_data blocks ≡ data_count
  pub blocks_are : length blocks ≡ block_count
  pub is_end : ended

-- The fault stands in the header, or in the block after those with which the bytes begin.
pub data IsFaulty (limits : FileLimitValues) (ended : Type 0) : FileFault → List ℕ → Type 0 where
  of_header : {f : HeaderFault} {bytes : List ℕ} → HeaderFails limits.header ended bytes f → IsFaulty limits ended (in_header f) bytes
  of_block : {f : BlockFault} {n : ℕ} {bytes : List ℕ} (h : HeaderValue) (blocks : List Values) (rest : List ℕ)
      → BeginsWith limits h blocks bytes rest → length blocks ≡ n → BlockFails (reading_in limits h) n ended rest f
      → IsFaulty limits ended (in_block n f) bytes
