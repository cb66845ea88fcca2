-- Blocks that were read, and one that is refused.
use Rattle.std.specs.Prelude.{◌≡◌, ℕ, ◌<◌, ◌≤◌, List, ◌++◌, length}
use Rattle.avro_schema.specs.Value.{Values, values_count}
use Rattle.avro_file.specs.BlockFails.{FileLimitValues, BlockFails, max_blocks}
use Rattle.avro_file.specs.File.{HeaderValue}
use Rattle.avro_file.specs.FileFault.{FileFault, BlockFault, in_block}
use Rattle.avro_container.specs.Steps.{AreBlocksWithin, IsBlockWithin, total_data}
use Rattle.avro_container.specs.Checking.{reading_in}

-- the block after `number` others, with so many data
pub record IsCounted (limits : FileLimitValues) (h : HeaderValue) (number count : ℕ) (bytes : List ℕ) : Type 0 where
  pub values : Values
  pub is_block : IsBlockWithin limits h values bytes
  pub counted : values_count values ≡ count
  pub few : number < max_blocks

-- blocks one after another, with so many data together
pub record AreCounted (limits : FileLimitValues) (h : HeaderValue) (data_count block_count : ℕ) (bytes : List ℕ) : Type 0 where
  pub blocks : List Values
  pub are_blocks : AreBlocksWithin limits h blocks bytes
  pub few : length blocks ≤ max_blocks
  pub items_are : total_data blocks ≡ data_count
  pub blocks_are : length blocks ≡ block_count

-- the fault is one of this block
abbrev pub IsFaultOf : FileLimitValues → HeaderValue → ℕ → Type 0 → FileFault → List ℕ → Type 0
IsFaultOf limits h number ended f bytes = (g : BlockFault) × (f ≡ in_block number g) × BlockFails (reading_in limits h) number ended bytes g

-- the fault stands after blocks
pub record FailsAfter (limits : FileLimitValues) (h : HeaderValue) (ended : Type 0) (f : FileFault) (bytes : List ℕ) : Type 0 where
  pub front : List ℕ
  pub rest : List ℕ
  pub blocks : List Values
  pub are_blocks : AreBlocksWithin limits h blocks front
  pub few : length blocks ≤ max_blocks
  pub split : bytes ≡ front ++ rest
  pub fault : IsFaultOf limits h (length blocks) ended f rest
