-- Of names that are found, the one that comes first in a list.
use Rattle.std.specs.Prelude.{ℕ, Option, Some, None, cond, nat_lt}

-- of an index in the list with what is there, if it has one, and another with its own, the one of the least index
abbrev pub nearer : Option ℕ → ℕ → Option (ℕ × ℕ) → Option (ℕ × ℕ)
nearer None field other = other
nearer (Some place) field None = Some (place, field)
nearer (Some place) field (Some other) = cond (nat_lt other.0 place) (Some other) (Some (place, field))

abbrev pub field_in : Option (ℕ × ℕ) → Option ℕ
field_in None = None
field_in (Some found) = Some found.1
