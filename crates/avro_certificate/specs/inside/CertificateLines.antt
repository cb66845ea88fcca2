-- What is kept of the numbers of a text.
use Rattle.std.specs.Prelude.{◌≡◌, ℕ, Bool, true, cond, List, ◌++◌, Option, Some, None}
use Rattle.avro_compare.specs.Children.{Pair}
use Rattle.avro_certificate.specs.CertificateText.{is_small}

-- a number up to 4,095, and 4,096 in place of each greater one
abbrev pub bounded : ℕ → ℕ
bounded n = cond (is_small n) n 4096

abbrev pub bounded_pair : Pair → Pair
bounded_pair p = record { w = bounded p.w; r = bounded p.r }

-- no line of a kind stands at the front
abbrev pub NoneAhead : {A : Type 0} → (A → List ℕ) → List ℕ → Type 0
NoneAhead {A} line text = (a : A) (more : List ℕ) → text ≡ line a ++ more → ⊥

-- what comes after the last element, where there is one
abbrev pub follows : {A : Type 0} → (A → A → Bool) → Option A → A → Bool
follows before None x = true
follows before (Some last) x = before last x
