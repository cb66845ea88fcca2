-- The number of a text is one.
use Rattle.std.proofs.Common.{◌≡◌, ◌∙◌, ℕ, zero, suc, false, List, [], ◌∷◌, Some, None, bytes_eq, slice_get, refl, sym, ap, true≢false}
use Rattle.std.specs.List.{IsDistinct, AllByRecursion}
use Rattle.std.proofs.lemmas.Slice.Eq.{bytes_eq-Decides}
use Rattle.avro_texts.specs.Texts.{AreDistinct}

apart : {A : Type 0} {x : A} → None ≡ Some x → ⊥
apart e = cc

differs : (t : List ℕ) (ts : List (List ℕ)) (j : ℕ) → AllByRecursion (λ u. bytes_eq t u ≡ false) ts → slice_get ts j ≡ Some t → ⊥
differs t [] j h e = apart e
differs t (u ∷ ts) zero h e = let same : u ≡ t = cc in true≢false (sym ((bytes_eq-Decides t u).1 (sym same)) ∙ h.0)
differs t (u ∷ ts) (suc j) h e = differs t ts j h.1 e

-- two numbers of one text are the same
pub one_number : (ts : List (List ℕ)) (t : List ℕ) (i j : ℕ) → AreDistinct ts → slice_get ts i ≡ Some t → slice_get ts j ≡ Some t → i ≡ j
unfolding IsDistinct
one_number [] t i j d e f = absurd (apart e)
one_number (u ∷ ts) t zero zero d e f = refl
one_number (u ∷ ts) t zero (suc j) d e f = let same : u ≡ t = cc in absurd (differs u ts j d.0 (f ∙ ap (λ (v : List ℕ). Some v) (sym same)))
one_number (u ∷ ts) t (suc i) zero d e f = let same : u ≡ t = cc in absurd (differs u ts i d.0 (e ∙ ap (λ (v : List ℕ). Some v) (sym same)))
one_number (u ∷ ts) t (suc i) (suc j) d e f = ap suc (one_number ts t i j d.1 e f)
