-- How contracts see a cursor, and how it moves.
use Rattle.std.specs.Prelude.{◌≡◌, ℕ, ◌+◌, ◌<◌, List, ◌++◌, length}

-- the bytes that are left, the offset of the first of them, and what is left of the limits
pub record CursorValue : Type 0 where
  pub bytes : List ℕ
  pub offset : ℕ
  pub depth : ℕ
  pub nodes : ℕ
  pub blob : ℕ

-- The cursor has passed these bytes, and nothing else of it has changed.
pub record Passes (before : CursorValue) (front : List ℕ) (after : CursorValue) : Type 0 where
  pub split : before.bytes ≡ front ++ after.bytes
  pub offset : after.offset ≡ before.offset + length front
  pub depth : after.depth ≡ before.depth
  pub nodes : after.nodes ≡ before.nodes
  pub blob : after.blob ≡ before.blob

-- A node was entered: it takes one of the nodes left and one of the depth, and nothing else has changed.
pub record Enters (before after : CursorValue) : Type 0 where
  pub depth : before.depth ≡ after.depth + 1
  pub nodes : before.nodes ≡ after.nodes + 1
  pub bytes : after.bytes ≡ before.bytes
  pub offset : after.offset ≡ before.offset
  pub blob : after.blob ≡ before.blob

-- A node without parts was entered and left: it takes one of the nodes left, and nothing else has changed.
pub record Counts (before after : CursorValue) : Type 0 where
  pub some : 0 < before.depth
  pub nodes : before.nodes ≡ after.nodes + 1
  pub depth : after.depth ≡ before.depth
  pub bytes : after.bytes ≡ before.bytes
  pub offset : after.offset ≡ before.offset
  pub blob : after.blob ≡ before.blob
