-- Groups of seven bits that are written after an output.
use Rattle.std.specs.Prelude.{◌≡◌, ℕ, List, ◌++◌}
use Rattle.avro_zigzag.specs.Number.{AreLeastGroups}

-- after an output are some groups of a number, and the rest of it is still to be written
pub record GroupsSoFar (number rest : ℕ) (before after : List ℕ) : Type 0 where
  pub groups : List ℕ
  pub written : after ≡ before ++ groups
  pub so_far : (tail : List ℕ) → AreLeastGroups rest tail → AreLeastGroups number (groups ++ tail)
