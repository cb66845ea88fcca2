-- What taking a block moves, where `gives` says which bytes an input moved between two states.
use Rattle.std.specs.Prelude.{ℕ, List}
use Rattle.avro_file.specs.BlockFails.{FileLimitValues}
use Rattle.avro_file.specs.BlockStands.{BlockStands, IsBlockFault}
use Rattle.avro_file.specs.FileFault.{FileFault}

-- exactly a block was taken from an input: of a number of data, which are these bytes
pub record TakesBlock {I : Type 0} (gives : I → List ℕ → I → Type 0) (from to : I) (limits : FileLimitValues) (sync : List ℕ) (count : ℕ) (body : List ℕ) : Type 0 where
  pub bytes : List ℕ
  pub taken : gives from bytes to
  pub stands : BlockStands limits sync count body bytes

-- what was taken from an input has the fault of the block
pub record TakesFault {I : Type 0} (gives : I → List ℕ → I → Type 0) (ended : I → Type 0) (from to : I) (limits : FileLimitValues) (sync : List ℕ) (number : ℕ) (fault : FileFault) : Type 0 where
  pub bytes : List ℕ
  pub taken : gives from bytes to
  pub stands : IsBlockFault limits sync number (ended to) bytes fault
