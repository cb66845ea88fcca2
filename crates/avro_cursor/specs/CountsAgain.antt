-- How nodes are counted of data that are not read.
use Rattle.std.specs.Prelude.{◌≡◌, ℕ, ◌+◌}
use Rattle.avro_cursor.specs.CursorValue.{CursorValue}

-- So many of the nodes left were taken, and nothing else has changed.
pub record CountsAgain (before : CursorValue) (count : ℕ) (after : CursorValue) : Type 0 where
  pub nodes : before.nodes ≡ after.nodes + count
  pub depth : after.depth ≡ before.depth
  pub bytes : after.bytes ≡ before.bytes
  pub offset : after.offset ≡ before.offset
  pub blob : after.blob ≡ before.blob
