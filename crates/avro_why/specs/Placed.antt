-- Reasons at places of a text, in the order of the text.
use Rattle.std.specs.Prelude.{⊤, ◌≤◌, ℕ, List, [], ◌∷◌, IfSome}
use Rattle.avro_why.specs.Position.{IsPosition}
use Rattle.avro_why.specs.declared.reasons.Reason.{Reason}

-- each stands at an offset, at none before that of the reason in front of it, the first at none before this one; one that has a pointer has the line and the
-- column of the place there
abbrev pub ArePlacedFrom : List ℕ → ℕ → List Reason → Type 0
ArePlacedFrom text from [] = ⊤
ArePlacedFrom text from (r ∷ rs) = (offset : ℕ) × (from ≤ offset) × IfSome r.pointer (λ _. IsPosition text offset r.line r.column) × ArePlacedFrom text offset rs

-- the reasons stand in the order of the text, from its beginning
abbrev pub ArePlaced : List ℕ → List Reason → Type 0
ArePlaced text reasons = ArePlacedFrom text 0 reasons
