-- Distinct keys that are sorted rise.
use Rattle.std.proofs.Common.{◌≡◌, ℕ, suc, ◌≤◌, Bool, true, false, List, [], ◌∷◌, Some, refl, sym, ◌∙◌, arith}
use Rattle.std.proofs.lemmas.Bool.Decides.{nat_tests}
use Rattle.std.proofs.lemmas.List.Sorted.{list_any-IsPermutation, IsNonDecreasingBy-from_sort}
use Rattle.std.proofs.lemmas.Map.Keys.{IsDistinct-IsPermutation, IsDistinct-tail, apart_from_distinct}
use Rattle.std.specs.List.{IsDistinct, list_all}
use Rattle.std.specs.List.Sorted.{IsPermutation, IsSorted, IsNonDecreasingBy}
use Rattle.std.specs.Ordering.{nat_cmp}
use Rattle.std.specs.Prelude.{nat_lt, nat_eq, ◌==◌}
use Rattle.avro_certificate.specs.CertificateText.{is_rising}
use Rattle.avro_least.specs.Reached.{is_key}
use Rattle.avro_least.proofs.public.Keys.{each_key, key_passes}
use Rattle.avro_certificate.proofs.public.Rising.{rises_after, both_true, numbers_rise}

less_of_next : (a b : ℕ) → a ≤ b → nat_eq a b ≡ false → nat_lt a b ≡ true
less_of_next a b up apart =
    let differ : (a == b) ≡ false = apart in
    grind (arith, nat_tests, up, differ)

from_sorted : (last : ℕ) (xs : List ℕ) → IsNonDecreasingBy (λ x. x) (last ∷ xs) → IsDistinct nat_eq (last ∷ xs) → rises_after nat_lt (Some last) xs ≡ true
from_sorted last [] up apart = refl
from_sorted last (x ∷ xs) up apart =
    both_true (nat_lt last x) (rises_after nat_lt (Some x) xs)
    (less_of_next last x (up 0 1 0 (omega arith) (omega arith)) (apart_from_distinct nat_eq (last ∷ x ∷ xs) 0 1 0 apart (omega arith) (omega arith)))
    (from_sorted x xs (λ i j d from to. up (suc i) (suc j) d (omega (arith, from)) (omega (arith, to))) (IsDistinct-tail nat_eq last (x ∷ xs) apart))

pub sorted_rise : (ks : List ℕ) → IsSorted nat_cmp ks → IsDistinct nat_eq ks → is_rising nat_lt ks ≡ true
sorted_rise [] up apart = refl
sorted_rise (k ∷ ks) up apart = sym (numbers_rise (k ∷ ks)) ∙ from_sorted k ks (IsNonDecreasingBy-from_sort (λ x. x) (k ∷ ks) up) apart

-- once they are put in order
pub moved_rise : (ks ns : List ℕ) → IsPermutation ks ns → IsSorted nat_cmp ns → IsDistinct nat_eq ks → is_rising nat_lt ns ≡ true
moved_rise ks ns moved up apart = sorted_rise ns up (IsDistinct-IsPermutation nat_eq (λ x y. flips x y) ks ns moved apart)
  where
    flips : (x y : ℕ) → nat_eq x y ≡ nat_eq y x
    flips x y = grind (arith, nat_tests)

pub moved_keys : (ks ns : List ℕ) → IsPermutation ks ns → (k : ℕ) → is_key ns k ≡ is_key ks k
moved_keys ks ns moved k = sym (list_any-IsPermutation (λ x. k == x) ks ns moved)

pub all_moved : (test : ℕ → Bool) (ks ns : List ℕ) → ((k : ℕ) → is_key ns k ≡ is_key ks k) → list_all test ks ≡ true → list_all test ns ≡ true
all_moved test ks ns same all = each_key test ns (λ k m. key_passes test ks k all (sym (same k) ∙ m))
