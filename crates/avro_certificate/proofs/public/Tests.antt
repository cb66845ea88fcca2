-- What a test of a list says of its elements.
use Rattle.std.proofs.Common.{◌≡◌, ℕ, zero, suc, Bool, true, false, not, ◌&&◌, ◌||◌, List, [], ◌∷◌, ◌++◌, Some, length, ◌<◌, ◌⊎◌, inl, inr, refl, sym, subst, arith}
use Rattle.std.proofs.lemmas.Bool.{false≢true, true≢false, eqb-true}
use Rattle.std.specs.Prelude.{◌==◌, slice_get, unwrap_or}
use Rattle.std.specs.List.{list_all, list_any, prefix_len}
use Rattle.avro_compare.specs.Children.{Pair}
use Rattle.avro_certificate.specs.Closed.{is_among, same_pair, is_among_pairs}

-- what passes both tests passes the first
pub and_left : (a b : Bool) → (a && b) ≡ true → a ≡ true
and_left a b h = grind arith

-- and the second
pub and_right : (a b : Bool) → (a && b) ≡ true → b ≡ true
and_right a b h = grind arith

-- what passes neither test does not pass the first
pub or_left : (a b : Bool) → (a || b) ≡ false → a ≡ false
or_left a b h = grind arith

-- nor the second
pub or_right : (a b : Bool) → (a || b) ≡ false → b ≡ false
or_right a b h = grind (arith, true≢false)

-- of two tests the first or the second passes
pub or_cases : (a b : Bool) → (a || b) ≡ true → (a ≡ true) ⊎ (b ≡ true)
or_cases a b h = grind arith

-- the one that is left
pub or_not : (a b : Bool) → (a || b) ≡ true → (a ≡ true → ⊥) → b ≡ true
or_not a b h refuted = grind arith

-- what passes the first of two tests passes one of them
pub or_from_left : (a b : Bool) → a ≡ true → (a || b) ≡ true
or_from_left a b h = grind arith

-- and so does what passes the second
pub or_from_right : (a b : Bool) → b ≡ true → (a || b) ≡ true
or_from_right a b h = grind arith

-- a denied test
pub not_true : (a : Bool) → not a ≡ true → a ≡ false
not_true a h = grind arith

-- a test denied twice
pub not_false : (a : Bool) → not a ≡ false → a ≡ true
not_false a h = grind arith

-- what all pass, one of them passes
pub all_among : (test : ℕ → Bool) (xs : List ℕ) (x : ℕ) → list_all test xs ≡ true → is_among xs x ≡ true → test x ≡ true
all_among test [] x all among = absurd (false≢true among)
all_among test (y ∷ ys) x all among = elim (or_cases (y == x) (is_among ys x) among) [
  | inl same ↦ subst (λ (z : ℕ). test z ≡ true) (eqb-true y x same) (and_left (test y) (list_all test ys) all)
  | inr later ↦ all_among test ys x (and_right (test y) (list_all test ys) all) later
]

-- pairs of the same nodes are one
pub same_pair-true : (p q : Pair) → same_pair p q ≡ true → p ≡ q
same_pair-true p q h = grind (arith, and_left, and_right, eqb-true)

-- the same for a pair
pub all_among_pairs : (test : Pair → Bool) (ps : List Pair) (p : Pair) → list_all test ps ≡ true → is_among_pairs ps p ≡ true → test p ≡ true
all_among_pairs test [] p all among = absurd (false≢true among)
all_among_pairs test (q ∷ qs) p all among = elim (or_cases (same_pair p q) (is_among_pairs qs p) among) [
  | inl same ↦ subst (λ (z : Pair). test z ≡ true) (sym (same_pair-true p q same)) (and_left (test q) (list_all test qs) all)
  | inr later ↦ all_among_pairs test qs p (and_right (test q) (list_all test qs) all) later
]

-- and for what stands at an index
pub all_at : {A : Type 0} (test : A → Bool) (xs : List A) (k : ℕ) (x : A) → list_all test xs ≡ true → slice_get xs k ≡ Some x → test x ≡ true
all_at test [] k x all here = absurd (grind arith)
all_at test (y ∷ ys) zero x all here = grind arith
all_at test (y ∷ ys) (suc k) x all here = all_at test ys k x (and_right (test y) (list_all test ys) all) here

-- what none passes, the one at an index does not pass
pub none_at : {A : Type 0} (test : A → Bool) (xs : List A) (k : ℕ) (d : A) → list_any test xs ≡ false → k < length xs
    → test (unwrap_or (slice_get xs k) d) ≡ false
none_at test [] k d none within = absurd (omega arith)
none_at test (x ∷ xs) zero d none within = or_left (test x) (list_any test xs) none
none_at test (x ∷ xs) (suc k) d none within = none_at test xs k d (or_right (test x) (list_any test xs) none) (omega arith)

-- where one passes, there is a first that does
pub prefix_len_below : {A : Type 0} (test : A → Bool) (xs : List A) → list_any test xs ≡ true → prefix_len (λ x. not (test x)) xs < length xs
prefix_len_below test [] some = absurd (false≢true some)
prefix_len_below test (x ∷ xs) some = first (test x) refl (prefix_len_below test xs)
  where
    first : (b : Bool) → test x ≡ b → (list_any test xs ≡ true → prefix_len (λ y. not (test y)) xs < length xs)
        → prefix_len (λ y. not (test y)) (x ∷ xs) < length (x ∷ xs)
    first b e later = grind (arith, or_not, true≢false)

-- each of a list of one more
pub each_more : {A : Type 0} (P : A → Type 0) (xs : List A) (x : A) → ((k : ℕ) (y : A) → slice_get xs k ≡ Some y → P y) → P x
    → (k : ℕ) (y : A) → slice_get (xs ++ x ∷ []) k ≡ Some y → P y
each_more P [] x h last zero y got = let same : x ≡ y = cc in subst P same last
each_more P [] x h last (suc k) y got = absurd cc
each_more P (z ∷ zs) x h last zero y got = h 0 y got
each_more P (z ∷ zs) x h last (suc k) y got = each_more P zs x (λ j z here. h (suc j) z here) last k y got
