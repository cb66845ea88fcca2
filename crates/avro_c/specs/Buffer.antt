-- What a call leaves in the buffer that its caller gave for a text.
use Rattle.std.specs.Prelude.{◌≡◌, ℕ, List, ◌++◌, length, take, drop}

-- The buffer has as much of a text as fits, after it what was there before, and the length of the whole text is
-- reported.
pub record IsPut (text before after : List ℕ) (wanted : ℕ) : Type 0 where
  pub front : after ≡ take (length before) text ++ drop (length text) before
  pub whole : wanted ≡ length text

-- nothing was written, and the length is 0
pub record IsUntouched (before after : List ℕ) (wanted : ℕ) : Type 0 where
  pub same : after ≡ before
  pub none : wanted ≡ 0
