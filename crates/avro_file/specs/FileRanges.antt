-- The ranges of the limits of a file.
use Rattle.std.specs.Prelude.{ℕ, ◌≤◌}
use Rattle.avro_file.specs.BlockFails.{FileLimitValues}

-- the greatest limit
abbrev pub max_limit : ℕ
max_limit = 16777216

-- the ranges of the limits on a header, on a block and on its data: each is 1 to 16,777,216
pub record AreFileLimits (l : FileLimitValues) : Type 0 where
  pub header_some : 1 ≤ l.header
  pub header_most : l.header ≤ max_limit
  pub block_some : 1 ≤ l.block
  pub block_most : l.block ≤ max_limit
  pub per_block_some : 1 ≤ l.per_block
  pub per_block_most : l.per_block ≤ max_limit
