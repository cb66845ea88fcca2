-- Lists that rise, element by element.
use Rattle.std.proofs.Common.{◌≡◌, ℕ, Bool, true, ◌&&◌, List, [], ◌∷◌, Option, Some, None, map, refl, ap, ◌∙◌, cond, arith}
use Rattle.std.proofs.lemmas.Bool.Decides.{nat_tests}
use Rattle.std.specs.Prelude.{nat_lt}
use Rattle.std.specs.List.{list_all}
use Rattle.avro_compare.specs.Children.{Pair}
use Rattle.avro_certificate.specs.CertificateText.{is_rising, is_before, is_small, is_small_pair, are_small}
use Rattle.avro_certificate.specs.inside.CertificateLines.{bounded, bounded_pair, follows}
use Rattle.avro_certificate.proofs.public.Tests.{and_left, and_right}

-- each element comes after the one before it, the first of them after the last so far
abbrev pub rises_after : {A : Type 0} → (A → A → Bool) → Option A → List A → Bool
rises_after before last [] = true
rises_after before last (x ∷ xs) = follows before last x && rises_after before (Some x) xs

pub both_true : (a b : Bool) → a ≡ true → b ≡ true → (a && b) ≡ true
both_true a b h k = grind arith

-- tests that pass alike are one
same_test : (a b : Bool) → (a ≡ true → b ≡ true) → (b ≡ true → a ≡ true) → a ≡ b
same_test a b f g = grind arith

module _ {A : Type 0} (before : A → A → Bool) (through : (a b c : A) → before a b ≡ true → before b c ≡ true → before a c ≡ true) where
  all_after : (a b : A) (xs : List A) → before a b ≡ true → list_all (before b) xs ≡ true → list_all (before a) xs ≡ true
  all_after a b [] h all = refl
  all_after a b (x ∷ xs) h all = both_true (before a x) _ (through a b x h (and_left (before b x) _ all)) (all_after a b xs h (and_right (before b x) _ all))

  all_from : (a : A) (xs : List A) → rises_after before (Some a) xs ≡ true → (list_all (before a) xs ≡ true) × (is_rising before xs ≡ true)
  all_from a [] h = (refl, refl)
  all_from a (x ∷ xs) h =
      let here = and_left (before a x) _ h in
      let rest = all_from x xs (and_right (before a x) _ h) in
      (both_true (before a x) _ here (all_after a x xs here rest.0), both_true (list_all (before x) xs) _ rest.0 rest.1)

  from_all : (a : A) (xs : List A) → list_all (before a) xs ≡ true → is_rising before xs ≡ true → rises_after before (Some a) xs ≡ true
  from_all a [] h k = refl
  from_all a (x ∷ xs) h k = both_true (before a x) _ (and_left (before a x) _ h)
      (from_all x xs (and_left (list_all (before x) xs) _ k) (and_right (list_all (before x) xs) _ k))

  steps_rise : (xs : List A) → rises_after before None xs ≡ is_rising before xs
  steps_rise [] = refl
  steps_rise (x ∷ xs) = same_test (rises_after before (Some x) xs) (list_all (before x) xs && is_rising before xs)
      (λ h. let all = all_from x xs h in both_true (list_all (before x) xs) _ all.0 all.1)
      (λ h. from_all x xs (and_left (list_all (before x) xs) _ h) (and_right (list_all (before x) xs) _ h))

lt_through : (a b c : ℕ) → nat_lt a b ≡ true → nat_lt b c ≡ true → nat_lt a c ≡ true
lt_through a b c h k = grind (arith, nat_tests)

pub before_through : (p q s : Pair) → is_before p q ≡ true → is_before q s ≡ true → is_before p s ≡ true
before_through p q s h k = grind (arith, nat_tests)

pub numbers_rise : (xs : List ℕ) → rises_after nat_lt None xs ≡ is_rising nat_lt xs
numbers_rise = steps_rise nat_lt lt_through

pub pairs_rise : (ps : List Pair) → rises_after is_before None ps ≡ is_rising is_before ps
pairs_rise = steps_rise is_before before_through

-- what is kept of a list of numbers

bounded_small : (n : ℕ) → is_small (bounded n) ≡ is_small n
bounded_small n = grind arith

small_kept : (n : ℕ) → is_small n ≡ true → bounded n ≡ n
small_kept n h = ap (λ b. cond b n 4096) h

numbers_small : (ns : List ℕ) → list_all is_small (map bounded ns) ≡ list_all is_small ns
numbers_small [] = refl
numbers_small (n ∷ ns) = ap (λ b. b && list_all is_small (map bounded ns)) (bounded_small n) ∙ ap (λ b. is_small n && b) (numbers_small ns)

pairs_small : (ps : List Pair) → list_all is_small_pair (map bounded_pair ps) ≡ list_all is_small_pair ps
pairs_small [] = refl
pairs_small (p ∷ ps) =
    ap (λ b. b && list_all is_small_pair (map bounded_pair ps)) (ap (λ b. b && is_small (bounded p.r)) (bounded_small p.w) ∙ ap (λ b. is_small p.w && b) (bounded_small p.r))
    ∙ ap (λ b. is_small_pair p && b) (pairs_small ps)

numbers_kept : (ns : List ℕ) → list_all is_small ns ≡ true → map bounded ns ≡ ns
numbers_kept [] h = refl
numbers_kept (n ∷ ns) h = ap (λ k. k ∷ map bounded ns) (small_kept n (and_left (is_small n) _ h)) ∙ ap (λ l. n ∷ l) (numbers_kept ns (and_right (is_small n) _ h))

pairs_kept : (ps : List Pair) → list_all is_small_pair ps ≡ true → map bounded_pair ps ≡ ps
pairs_kept [] h = refl
pairs_kept (p ∷ ps) h =
    let here = and_left (is_small_pair p) _ h in
    ap (λ q. q ∷ map bounded_pair ps) (pair_kept (small_kept p.w (and_left (is_small p.w) _ here)) (small_kept p.r (and_right (is_small p.w) _ here)))
    ∙ ap (λ l. p ∷ l) (pairs_kept ps (and_right (is_small_pair p) _ h))
  where
    pair_kept : bounded p.w ≡ p.w → bounded p.r ≡ p.r → bounded_pair p ≡ p
    pair_kept a b = λ i. record { w = a i; r = b i }

pub kept_small : (dead : List ℕ) (pairs : List Pair) → are_small (map bounded dead) (map bounded_pair pairs) ≡ are_small dead pairs
kept_small dead pairs = ap (λ b. b && list_all is_small_pair (map bounded_pair pairs)) (numbers_small dead) ∙ ap (λ b. list_all is_small dead && b) (pairs_small pairs)

pub kept_same : (dead : List ℕ) (pairs : List Pair) → are_small dead pairs ≡ true → (map bounded dead ≡ dead) × (map bounded_pair pairs ≡ pairs)
kept_same dead pairs h = (numbers_kept dead (and_left (list_all is_small dead) _ h), pairs_kept pairs (and_right (list_all is_small dead) _ h))
