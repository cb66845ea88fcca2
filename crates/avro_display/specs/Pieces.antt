-- Text that goes out in pieces: what is not put yet is held.
use Rattle.std.specs.Prelude.{◌≡◌, ℕ, List, ◌++◌}

-- what a text held and then some bytes are what was put between two states and then what the text holds
abbrev pub PutsText : {O : Type 0} → (O → List ℕ → O → Type 0) → O → List ℕ → List ℕ → O → List ℕ → Type 0
PutsText keeps from held bytes to left = (put : List ℕ) × keeps from put to × (held ++ bytes ≡ put ++ left)
