-- Outputs that grow while data are read, and what stands in them.
use Rattle.std.specs.Prelude.{◌≡◌, ℕ, ◌+◌, List, ◌++◌, length}

-- an output has grown at its end
pub record Grows (before after : List ℕ) : Type 0 where
  pub more : List ℕ
  pub grown : after ≡ before ++ more

-- an output has these bytes from one offset to another
pub record StandsAt (out : List ℕ) (start end : ℕ) (bytes : List ℕ) : Type 0 where
  pub before : List ℕ
  pub rest : List ℕ
  pub split : out ≡ before ++ bytes ++ rest
  pub starts : start ≡ length before
  pub ends : end ≡ start + length bytes
