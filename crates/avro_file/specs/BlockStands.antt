-- A block with the parts that are read before its data (Avro 1.11, "Object Container Files").
use Rattle.std.specs.Prelude.{◌≡◌, ℕ, ◌≤◌, List, ◌++◌, length}
use Rattle.avro_file.specs.BlockFails.{BlockBegins, FileLimitValues, CountFails, CountIsCut, BlockReading, BlockFails}
use Rattle.avro_file.specs.FileFault.{FileFault, in_block, CountFault, BlockFault, invalid_count, cut_block}

-- a block of a number of data, which are these bytes, is these bytes in all; it is within the limits
pub record BlockStands (limits : FileLimitValues) (sync : List ℕ) (count : ℕ) (body bytes : List ℕ) : Type 0 where
  pub begins : BlockBegins bytes count (length body) (body ++ sync)
  pub few : count ≤ limits.per_block
  pub short : length body ≤ limits.block

-- what keeps a count or a size that should be at the front from being taken
pub data CountStops (number : ℕ) (ended : Type 0) (bytes : List ℕ) : FileFault → Type 0 where
  fails : {f : CountFault} → CountFails bytes f → CountStops number ended bytes (in_block number (invalid_count f))
  is_cut : CountIsCut bytes → ended → CountStops number ended bytes (in_block number cut_block)

-- a fault of this block, whatever is made of its data
abbrev pub IsBlockFault : FileLimitValues → List ℕ → ℕ → Type 0 → List ℕ → FileFault → Type 0
IsBlockFault limits sync number ended bytes f =
    (r : BlockReading) → r.limits ≡ limits → r.sync ≡ sync → (g : BlockFault) × (f ≡ in_block number g) × BlockFails r number ended bytes g
