-- Marks of nodes.
use Rattle.std.specs.Prelude.{ℕ, Bool, false, List, slice_get, unwrap_or}

abbrev pub is_mark : List Bool → ℕ → Bool
is_mark marks id = unwrap_or (slice_get marks id) false
