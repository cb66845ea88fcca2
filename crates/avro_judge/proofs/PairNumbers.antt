-- Pairs by their numbers: which are among those of a list of numbers, and that rising numbers are those of rising pairs.
use Rattle.std.proofs.Common.{◌≡◌, ℕ, ◌+◌, ◌*◌, ◌/◌, ◌%◌, ◌<◌, ◌≤◌, true, ◌&&◌, List, [], ◌∷◌, inl, inr, refl, sym, subst, arith}
use Rattle.std.proofs.lemmas.Bool.{false≢true, and_from, eqb-true, eq-eqb, ltb-true, lt-ltb, cases_eq}
use Rattle.std.proofs.lemmas.Nat.{div-mul-add, mod-mul-add, div-add-mod', le-div}
use Rattle.std.proofs.Math.Nat.{div-mul-le_self}
use Rattle.std.specs.Prelude.{nat_lt, ◌==◌}
use Rattle.std.specs.List.{list_all}
use Rattle.avro_compare.specs.Children.{Pair}
use Rattle.avro_certificate.specs.Closed.{same_pair, is_among_pairs}
use Rattle.avro_certificate.specs.CertificateText.{is_rising, is_before}
use Rattle.avro_least.specs.Tables.{pair_number}
use Rattle.avro_least.specs.Reached.{is_key}
use Rattle.avro_judge.specs.inside.Evidence.{pair_at, pairs_at}
use Rattle.avro_certificate.proofs.public.Tests.{and_left, and_right, or_cases, or_from_left, or_from_right, same_pair-true}

-- a pair is that of its number
pub number_back : (count : ℕ) (p : Pair) → p.r < count → pair_at count (pair_number count p.w p.r) ≡ p
number_back count p h = λ i. record { w = div-mul-add p.w count p.r h i; r = mod-mul-add p.w count p.r h i }

pub same_itself : (p : Pair) → same_pair p p ≡ true
same_itself p = and_from (p.w == p.w) (p.r == p.r) (eq-eqb p.w p.w refl) (eq-eqb p.r p.r refl)

-- the pair of a number among numbers is among their pairs
pub pair_listed : (count : ℕ) (ks : List ℕ) (k : ℕ) → is_key ks k ≡ true → is_among_pairs (pairs_at count ks) (pair_at count k) ≡ true
pair_listed count [] k h = absurd (false≢true h)
pair_listed count (x ∷ xs) k h = elim (or_cases (k == x) (is_key xs k) h) [
  | inl same ↦ or_from_left (same_pair (pair_at count k) (pair_at count x)) (is_among_pairs (pairs_at count xs) (pair_at count k))
      (subst (λ (y : ℕ). same_pair (pair_at count k) (pair_at count y) ≡ true) (eqb-true k x same) (same_itself (pair_at count k)))
  | inr later ↦ or_from_right (same_pair (pair_at count k) (pair_at count x)) (is_among_pairs (pairs_at count xs) (pair_at count k)) (pair_listed count xs k later)
]

-- a pair among those of numbers is that of one of them
pub record IsListed (count : ℕ) (ks : List ℕ) (p : Pair) : Type 0 where
  pub number : ℕ
  pub there : is_key ks number ≡ true
  pub is : p ≡ pair_at count number

pub listed_pair : (count : ℕ) (ks : List ℕ) (p : Pair) → is_among_pairs (pairs_at count ks) p ≡ true → IsListed count ks p
listed_pair count [] p h = absurd (false≢true h)
listed_pair count (x ∷ xs) p h = elim (or_cases (same_pair p (pair_at count x)) (is_among_pairs (pairs_at count xs) p) h) [
  | inl same ↦ record {
    number = x;
    there = or_from_left (x == x) (is_key xs x) (eq-eqb x x refl);
    is = same_pair-true p (pair_at count x) same;
  }
  | inr later ↦ further (listed_pair count xs p later)
]
  where
    further : IsListed count xs p → IsListed count (x ∷ xs) p
    further found = record { number = found.number; there = or_from_right (found.number == x) (is_key xs found.number) found.there; is = found.is }

-- the pair of a lesser number comes before
before_of_less : (count a b : ℕ) → 0 < count → a < b → is_before (pair_at count a) (pair_at count b) ≡ true
before_of_less count a b some less = elim (cases_eq (a / count) (b / count)) [
  | inl same ↦ or_from_right (nat_lt (a / count) (b / count)) ((a / count == b / count) && nat_lt (a % count) (b % count))
      (and_from (a / count == b / count) (nat_lt (a % count) (b % count)) (eq-eqb (a / count) (b / count) same)
      (lt-ltb (a % count) (b % count) (rest_less same)))
  | inr apart ↦ or_from_left (nat_lt (a / count) (b / count)) ((a / count == b / count) && nat_lt (a % count) (b % count))
      (lt-ltb (a / count) (b / count) (whole_less apart))
]
  where
    rest_less : a / count ≡ b / count → a % count < b % count
    rest_less same =
        let here = div-add-mod' a count in
        let there : a / count * count + b % count ≡ b = subst (λ (x : ℕ). x * count + b % count ≡ b) (sym same) (div-add-mod' b count) in
        omega (arith, here, there, less)

    whole_less : (a / count ≡ b / count → ⊥) → a / count < b / count
    whole_less apart =
        let below : a / count * count ≤ a = div-mul-le_self a count in
        let under : a / count ≤ b / count = le-div (a / count) b count some (omega (arith, below, less)) in
        omega (arith, apart, under)

pairs_after : (count k : ℕ) (ks : List ℕ) → 0 < count → list_all (nat_lt k) ks ≡ true → list_all (is_before (pair_at count k)) (pairs_at count ks) ≡ true
pairs_after count k [] some h = refl
pairs_after count k (x ∷ xs) some h =
    and_from (is_before (pair_at count k) (pair_at count x)) (list_all (is_before (pair_at count k)) (pairs_at count xs))
    (before_of_less count k x some (ltb-true k x (and_left (nat_lt k x) (list_all (nat_lt k) xs) h)))
    (pairs_after count k xs some (and_right (nat_lt k x) (list_all (nat_lt k) xs) h))

pub pairs_rising : (count : ℕ) (ks : List ℕ) → 0 < count → is_rising nat_lt ks ≡ true → is_rising is_before (pairs_at count ks) ≡ true
pairs_rising count [] some h = refl
pairs_rising count (k ∷ ks) some h =
    and_from (list_all (is_before (pair_at count k)) (pairs_at count ks)) (is_rising is_before (pairs_at count ks))
    (pairs_after count k ks some (and_left (list_all (nat_lt k) ks) (is_rising nat_lt ks) h))
    (pairs_rising count ks some (and_right (list_all (nat_lt k) ks) (is_rising nat_lt ks) h))
