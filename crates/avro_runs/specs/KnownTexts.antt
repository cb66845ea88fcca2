-- Texts in memory.
use denote.Ref.{Bor}
use Rattle.std.specs.Prelude.{ℕ, List, [], ◌∷◌, Option, None, Some, bytes_eq, if◌then◌else◌}

-- the first text that has this name
abbrev pub known_in : List (Bor (List ℕ) × Bor (List ℕ)) → List ℕ → Option (List ℕ)
known_in [] word = None
known_in (text ∷ rest) word = if bytes_eq text.0.now word then Some text.1.now else known_in rest word
