-- A list in order has no element twice exactly where each of its elements is below the next.
use Rattle.std.proofs.Common.{◌≡◌, ℕ, zero, suc, ◌+◌, ◌-◌, ◌<◌, ◌≤◌, Bool, true, false, not, List, [], ◌∷◌, map, length, get_or, MatchBool, refl, sym, ap, ◌∙◌, arith}
use Rattle.std.specs.List.{list_any, IsDistinct, AllAdjacentBelow}
use Rattle.std.specs.List.Sorted.{IsPermutation, IsSorted}
use Rattle.std.specs.Cmp.{IsTotalOrder}
use Rattle.std.specs.Ordering.{eq_by_cmp, is_eq, is_lt, ordering_reverse}
use Rattle.std.specs.declared.cmp.Ordering.{Ordering}
use Rattle.std.specs.declared.cmp.Ordering.TheVariants.{Less, Equal, Greater}
use Rattle.std.proofs.lemmas.Bool.{false≢true, false_from_ne_true, and_parts, not-true}
use Rattle.std.proofs.lemmas.Cmp.{eq_by_cmp_equiv}
use Rattle.std.proofs.lemmas.List.{get_or_default}
use Rattle.std.proofs.lemmas.List.Folds.{list_any_none, list_any_at}
use Rattle.std.proofs.lemmas.List.Sorted.{IsPermutation-sym}
use Rattle.std.proofs.lemmas.Map.Keys.{IsDistinct-tail, IsDistinct-from_apart, IsDistinct-from_sorted, IsDistinct-IsPermutation, apart_from_distinct, sorted_from_all_adjacent}
use Rattle.avro_schema.specs.Distinct.{are_distinct}

pub are_distinct-from_IsDistinct : {K : Type 0} (e : K → K → Bool) (xs : List K) → IsDistinct e xs → are_distinct e xs ≡ true
are_distinct-from_IsDistinct e [] d = refl
are_distinct-from_IsDistinct e (x ∷ xs) d =
    let none = list_any_none (e x) xs (λ k y below. apart_from_distinct e (x ∷ xs) zero (suc k) y d (omega arith) (omega arith)) in
    rw (none, are_distinct-from_IsDistinct e xs (IsDistinct-tail e x xs d)) refl

apart-from_are_distinct : {K : Type 0} (e : K → K → Bool) (xs : List K) → are_distinct e xs ≡ true
    → (i j : ℕ) (d : K) → i < j → j < length xs → e (get_or xs i d) (get_or xs j d) ≡ false
apart-from_are_distinct e [] h i j d before below = absurd (omega arith)
apart-from_are_distinct e (x ∷ xs) h zero zero d before below = absurd (omega arith)
apart-from_are_distinct e (x ∷ xs) h zero (suc j) d before below =
    let none = not-true (list_any (e x) xs) (and_parts (not (list_any (e x) xs)) (are_distinct e xs) h).0 in
    let here : j < length xs = omega arith in
    false_from_ne_true _ (λ same. false≢true (sym none ∙ list_any_at (e x) xs j d here same))
apart-from_are_distinct e (x ∷ xs) h (suc i) zero d before below = absurd (omega arith)
apart-from_are_distinct e (x ∷ xs) h (suc i) (suc j) d before below =
    apart-from_are_distinct e xs (and_parts (not (list_any (e x) xs)) (are_distinct e xs) h).1 i j d (omega arith) (omega arith)

pub IsDistinct-from_are_distinct : {K : Type 0} (e : K → K → Bool) (xs : List K) → are_distinct e xs ≡ true → IsDistinct e xs
IsDistinct-from_are_distinct e xs h = IsDistinct-from_apart e xs (apart-from_are_distinct e xs h)

-- neighbours in order of which the first is not below the second are equal
equal_neighbours : (a b : Ordering) → a ≡ ordering_reverse b → is_lt b ≡ false → (a ≡ Less → ⊥) → is_eq a ≡ true
equal_neighbours Less b flip up h = absurd (h refl)
equal_neighbours Equal b flip up h = refl
equal_neighbours Greater Less flip up h = absurd (false≢true (sym up))
equal_neighbours Greater Equal flip up h = absurd cc
equal_neighbours Greater Greater flip up h = absurd cc

from_rise : {K : Type 0} (R : K → K → Ordering) → IsTotalOrder R → (ys : List K) → AllAdjacentBelow (λ x y. R x y ≡ Less) ys (length ys) → IsDistinct (eq_by_cmp R) ys
unfolding IsDistinct
from_rise R o [] rise = tt
from_rise R o (y ∷ ys) rise = IsDistinct-from_sorted R (y ∷ ys) (sorted_from_all_adjacent o (y ∷ ys) y (λ k below. rise k y below))

from_pair : {K : Type 0} (R : K → K → Ordering) → IsTotalOrder R → (ys : List K) → IsSorted R ys → IsDistinct (eq_by_cmp R) ys
    → (k : ℕ) → k + 1 < length ys → ((d : K) → R (get_or ys k d) (get_or ys (k + 1) d) ≡ Less → ⊥) → ⊥
from_pair R o [] up apart k below pair = absurd (omega arith)
from_pair R o (y ∷ ys) up apart k below pair =
    let equal = equal_neighbours (R (get_or (y ∷ ys) k y) (get_or (y ∷ ys) (k + 1) y)) (R (get_or (y ∷ ys) (k + 1) y) (get_or (y ∷ ys) k y))
    (o.antisymm _ _) (up k y (omega arith) below) (pair y) in
    false≢true (sym (apart_from_distinct (eq_by_cmp R) (y ∷ ys) k (k + 1) y apart (omega arith) below) ∙ equal)

-- the result of a test of neighbours, once they are sorted
pub distinct-answer : {K : Type 0} (R : K → K → Ordering) → IsTotalOrder R → (xs ys : List K) → IsPermutation xs ys → (r : Bool) → IsSorted R ys
    → MatchBool r (AllAdjacentBelow (λ x y. R x y ≡ Less) ys (length ys))
    ((k : ℕ) × (k + 1 < length ys) × ((d : K) → R (get_or ys k d) (get_or ys (k + 1) d) ≡ Less → ⊥))
    → r ≡ are_distinct (eq_by_cmp R) xs
distinct-answer R o xs ys moved true up rise =
    let E = eq_by_cmp R in
    let apart = IsDistinct-IsPermutation E (eq_by_cmp_equiv o).symm ys xs (IsPermutation-sym xs ys moved) (from_rise R o ys rise) in
    sym (are_distinct-from_IsDistinct E xs apart)
distinct-answer R o xs ys moved false up pair =
    let E = eq_by_cmp R in
    sym (false_from_ne_true (are_distinct E xs) (λ distinct.
    from_pair R o ys up (IsDistinct-IsPermutation E (eq_by_cmp_equiv o).symm xs ys moved (IsDistinct-from_are_distinct E xs distinct)) pair.0 pair.1 pair.2))

-- a list whose elements are seen is distinct by a test that sees them the same
pub are_distinct-map : {A B : Type 0} (f : A → B) (d : A → A → Bool) (e : B → B → Bool) → ((x y : A) → d x y ≡ e (f x) (f y))
    → (xs : List A) → are_distinct d xs ≡ are_distinct e (map f xs)
are_distinct-map f d e same [] = refl
are_distinct-map f d e same (x ∷ xs) = rw (any-map f (d x) (e (f x)) (same x) xs, are_distinct-map f d e same xs) refl
  where
    any-map : {A B : Type 0} (f : A → B) (p : A → Bool) (q : B → Bool) → ((y : A) → p y ≡ q (f y)) → (ys : List A) → list_any p ys ≡ list_any q (map f ys)
    any-map f p q same [] = refl
    any-map f p q same (y ∷ ys) = rw (same y, any-map f p q same ys) refl

-- an item that is not below the next
pub no_rise : {K : Type 0} (R : K → K → Ordering) (xs : List K) (i : ℕ) (a b : K) (o : Ordering) → 1 ≤ i → i < length xs
    → a ≡ get_or xs (i - 1) a → b ≡ get_or xs i b → o ≡ R a b → (o ≡ Less → ⊥)
    → (k : ℕ) × (k + 1 < length xs) × ((d : K) → R (get_or xs k d) (get_or xs (k + 1) d) ≡ Less → ⊥)
no_rise R xs i a b o low below first second is not_less =
    let next : i - 1 + 1 ≡ i = omega arith in (
      i - 1,
      omega arith,
      λ d less.
          let earlier = first ∙ get_or_default xs (i - 1) a d (omega arith) in
          let later = second ∙ get_or_default xs i b d below in
          not_less (is ∙ ap (λ x. R x b) earlier ∙ ap (λ y. R (get_or xs (i - 1) d) y) (later ∙ ap (λ j. get_or xs j d) (sym next)) ∙ less),
    )
