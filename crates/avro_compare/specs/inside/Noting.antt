-- What a list of parts is once one of them is noted.
use Rattle.std.specs.Prelude.{◌≡◌, ℕ, zero, suc, List, [], ◌∷◌, Some, slice_get}
use Rattle.avro_compare.specs.declared.comparison.At.{At}
use Rattle.avro_compare.specs.declared.comparison.At.TheVariants.{Ignored}

-- each is for nothing
abbrev pub AreIgnored : List At → Type 0
AreIgnored parts = (k : ℕ) (at : At) → slice_get parts k ≡ Some at → at ≡ Ignored

-- the part at an index is for this, and the others are as they were
abbrev pub noted : List At → ℕ → At → List At
noted [] index at = []
noted (part ∷ parts) zero at = at ∷ parts
noted (part ∷ parts) (suc index) at = part ∷ noted parts index at
