-- Adding a key to some keys.
use Rattle.std.proofs.Common.{◌≡◌, ◌≤◌, inl, inr, ap, ℕ, ◌+◌, ◌<◌, Bool, true, false, ◌&&◌, ◌||◌, List, [], ◌∷◌, ◌++◌, length, refl, sym, ◌∙◌, subst, arith, slice_get, Some, zero, suc, nat_lt, ◌==◌, nat_eq, if◌then◌else◌}
use Rattle.std.proofs.lemmas.Bool.{false≢true, and_from, eq-eqb, eqb-true, ltb-true, lt-ltb, cases_eq}
use Rattle.std.proofs.lemmas.List.Folds.{list_all-append, list_any-append}
use Rattle.std.proofs.lemmas.List.{append-nil}
use Rattle.std.proofs.lemmas.Map.Steps.{length-le_from_distinct_below}
use Rattle.std.proofs.lemmas.Option.{slice_get_within}
use Rattle.std.specs.List.{IsDistinct}
use Rattle.std.specs.List.{list_all}
use Rattle.indexmap.specs.IndexSet.{insert_key}
use Rattle.avro_least.specs.Reached.{is_key, AreFollowed}
use Rattle.avro_certificate.proofs.public.Tests.{and_left, and_right, or_cases, or_from_left, or_from_right}

pub some_same : {A : Type 0} (a b : A) → Some a ≡ Some b → a ≡ b
some_same a b e = cc

-- a key among the first is among all
pub key_kept : (ks rest : List ℕ) (q : ℕ) → is_key ks q ≡ true → is_key (ks ++ rest) q ≡ true
key_kept ks rest q h = list_any-append (λ x. q == x) ks rest ∙ or_from_left (is_key ks q) (is_key rest q) h

pub keys_kept : (ks rest qs : List ℕ) → list_all (is_key ks) qs ≡ true → list_all (is_key (ks ++ rest)) qs ≡ true
keys_kept ks rest [] h = refl
keys_kept ks rest (q ∷ qs) h = and_from (is_key (ks ++ rest) q) (list_all (is_key (ks ++ rest)) qs)
    (key_kept ks rest q (and_left (is_key ks q) (list_all (is_key ks) qs) h)) (keys_kept ks rest qs (and_right (is_key ks q) (list_all (is_key ks) qs) h))

-- the keys with one more
pub record IsAdded (ks : List ℕ) (k : ℕ) (new : List ℕ) : Type 0 where
  pub rest : List ℕ
  pub is : new ≡ ks ++ rest
  pub there : is_key new k ≡ true
  pub all : (P : ℕ → Bool) → list_all P ks ≡ true → P k ≡ true → list_all P new ≡ true
  pub from : (q : ℕ) → is_key new q ≡ true → (is_key ks q || is_key (k ∷ []) q) ≡ true

pub added : (ks : List ℕ) (k : ℕ) → IsAdded ks k (insert_key nat_eq ks k)
added ks k = chosen (is_key ks k) refl
  where
    chosen : (t : Bool) → is_key ks k ≡ t → IsAdded ks k (if t then ks else (ks ++ k ∷ []))
    chosen true e = record { rest = []; is = sym (append-nil ks); there = e; all = λ P h m. h; from = λ q h. or_from_left (is_key ks q) (is_key (k ∷ []) q) h }
    chosen false e = record {
      rest = k ∷ [];
      is = refl;
      there = list_any-append (λ x. k == x) ks (k ∷ []) ∙ or_from_right (is_key ks k) ((k == k) || false) (or_from_left (k == k) false (eq-eqb k k refl));
      all = λ P h m. list_all-append P ks (k ∷ []) ∙ and_from (list_all P ks) (P k && true) h (and_from (P k) true m refl);
      from = λ q h. sym (list_any-append (λ x. q == x) ks (k ∷ [])) ∙ h;
    }

-- what stands at an index is a key
pub key_at : (ks : List ℕ) (i k : ℕ) → slice_get ks i ≡ Some k → is_key ks k ≡ true
key_at [] i k h = absurd (grind arith)
key_at (x ∷ xs) zero k h = or_from_left (k == x) (is_key xs k) (eq-eqb k x (sym (some_same x k h)))
key_at (x ∷ xs) (suc i) k h = or_from_right (k == x) (is_key xs k) (key_at xs i k h)

-- a key that is there is not added
pub key_stays : (ks : List ℕ) (i k : ℕ) → slice_get ks i ≡ Some k → insert_key nat_eq ks k ≡ ks
key_stays ks i k there = ap (λ b. if b then ks else (ks ++ k ∷ [])) (key_at ks i k there)

-- what all keys pass, a key passes
pub key_passes : (test : ℕ → Bool) (ks : List ℕ) (k : ℕ) → list_all test ks ≡ true → is_key ks k ≡ true → test k ≡ true
key_passes test [] k all h = absurd (false≢true h)
key_passes test (x ∷ xs) k all h = elim (or_cases (k == x) (is_key xs k) h) [
  | inl same ↦ subst (λ (y : ℕ). test y ≡ true) (sym (eqb-true k x same)) (and_left (test x) (list_all test xs) all)
  | inr later ↦ key_passes test xs k (and_right (test x) (list_all test xs) all) later
]

-- what each key passes, all pass
pub each_key : (test : ℕ → Bool) (ks : List ℕ) → ((k : ℕ) → is_key ks k ≡ true → test k ≡ true) → list_all test ks ≡ true
each_key test [] each = refl
each_key test (x ∷ xs) each =
    and_from (test x) (list_all test xs) (each x (or_from_left (x == x) (is_key xs x) (eq-eqb x x refl)))
    (each_key test xs (λ k m. each k (or_from_right (k == x) (is_key xs k) m)))

-- a key of no keys
pub no_key : (ks : List ℕ) (k : ℕ) → length ks ≡ 0 → is_key ks k ≡ true → ⊥
no_key [] k e h = false≢true h
no_key (x ∷ xs) k e h = absurd (omega (arith, e))

-- a key that is the only one
pub only_key : (k q : ℕ) → is_key (k ∷ []) q ≡ true → q ≡ k
only_key k q h = elim (or_cases (q == k) false h) [
  | inl same ↦ eqb-true q k same
  | inr none ↦ absurd (false≢true none)
]

-- of some keys and more
pub key_more : (ks : List ℕ) (k q : ℕ) → (is_key ks q || is_key (k ∷ []) q) ≡ true → is_key (ks ++ k ∷ []) q ≡ true
key_more ks k q h = list_any-append (λ x. q == x) ks (k ∷ []) ∙ h

-- what stands among the first stays there
pub get_kept : {A : Type 0} (ks rest : List A) (i : ℕ) → i < length ks → slice_get (ks ++ rest) i ≡ slice_get ks i
get_kept [] rest i h = absurd (omega (arith, h))
get_kept (k ∷ ks) rest zero h = refl
get_kept (k ∷ ks) rest (suc i) h = get_kept ks rest i (omega (arith, h))

-- one more key is followed
pub followed_more : (steps : ℕ → List ℕ) (ks rest : List ℕ) (next key : ℕ) → AreFollowed steps ks next → slice_get ks next ≡ Some key
    → list_all (is_key (ks ++ rest)) (steps key) ≡ true → AreFollowed steps (ks ++ rest) (next + 1)
followed_more steps ks rest next key before here all i k found within = elim (cases_eq i next) [
  | inl same ↦
      let it : Some k ≡ Some key = sym found ∙ ap (slice_get (ks ++ rest)) same ∙ get_kept ks rest next (slice_get_within ks next key here) ∙ here in
      subst (λ (q : ℕ). list_all (is_key (ks ++ rest)) (steps q) ≡ true) (sym (some_same k key it)) all
  | inr apart ↦
      let low : i < next = omega (arith, apart, ltb-true i (next + 1) within) in
      keys_kept ks rest (steps k) (before i k (sym (get_kept ks rest i (omega (arith, low, slice_get_within ks next key here))) ∙ found) (lt-ltb i next low))
]

-- distinct keys below a bound are no more than it
pub few_keys : (ks : List ℕ) (n : ℕ) → IsDistinct nat_eq ks → list_all (λ x. nat_lt x n) ks ≡ true → length ks ≤ n
few_keys ks n distinct below = length-le_from_distinct_below ks n distinct (λ q h. each ks below q h)
  where
    each : (ks : List ℕ) → list_all (λ x. nat_lt x n) ks ≡ true → (q : ℕ) → is_key ks q ≡ true → q < n
    each [] b q h = absurd (false≢true h)
    each (k ∷ ks) b q h = elim (or_cases (q == k) (is_key ks q) h) [
      | inl same ↦ subst (λ (x : ℕ). x < n) (sym (eqb-true q k same)) (ltb-true k n (and_left (nat_lt k n) (list_all (λ x. nat_lt x n) ks) b))
      | inr later ↦ each ks (and_right (nat_lt k n) (list_all (λ x. nat_lt x n) ks) b) q later
    ]

-- of no keys all pass
pub none_pass : (test : ℕ → Bool) (ks : List ℕ) → length ks ≡ 0 → list_all test ks ≡ true
none_pass test [] h = refl
none_pass test (k ∷ ks) h = absurd (omega (arith, h))
