-- Searching lists that rise.
use Rattle.std.proofs.Common.{◌≡◌, ℕ, zero, suc, ◌+◌, ◌<◌, ◌≤◌, Bool, true, false, ◌&&◌, ◌||◌, ◌⊎◌, List, [], ◌∷◌, length, get_or, refl, sym, ap, ◌∙◌, subst, arith}
use Rattle.std.proofs.lemmas.Bool.{true≢false, eqb-true}
use Rattle.std.proofs.lemmas.Bool.Decides.{nat_tests}
use Rattle.std.proofs.lemmas.List.Sorted.{searched}
use Rattle.std.specs.Prelude.{◌==◌, nat_lt, Result, Ok, Err, is_ok}
use Rattle.std.specs.Ordering.{nat_cmp}
use Rattle.std.specs.List.{list_all, AllWithin}
use Rattle.std.specs.List.Sorted.{IsBinarySearchResult, IsPartitionedBy, IsPartitionPoint}
use Rattle.avro_compare.specs.Children.{Pair}
use Rattle.avro_certificate.specs.Closed.{is_among, same_pair, is_among_pairs}
use Rattle.avro_certificate.specs.CertificateText.{is_rising, is_before}
use Rattle.avro_certificate.specs.SeenPair.{pair_of, pairs_of}
use Rattle.avro_certificate.proofs.public.Tests.{and_left, and_right, or_from_left, or_from_right, same_pair-true}
use Rattle.avro_certificate.proofs.public.Rising.{before_through}

all_get : (test : ℕ → Bool) (xs : List ℕ) (j : ℕ) → list_all test xs ≡ true → j < length xs → test (get_or xs j 0) ≡ true
all_get test [] j all here = absurd (omega arith)
all_get test (x ∷ xs) zero all here = and_left (test x) _ all
all_get test (x ∷ xs) (suc j) all here = all_get test xs j (and_right (test x) _ all) (omega arith)

rises_between : (xs : List ℕ) → is_rising nat_lt xs ≡ true → (i j : ℕ) → i ≤ j → j < length xs → get_or xs i 0 ≤ get_or xs j 0
rises_between [] rising i j le here = absurd (omega arith)
rises_between (x ∷ xs) rising zero zero le here = omega arith
rises_between (x ∷ xs) rising zero (suc j) le here =
    let above = all_get (nat_lt x) xs j (and_left (list_all (nat_lt x) xs) _ rising) (omega arith) in grind (arith, nat_tests)
rises_between (x ∷ xs) rising (suc i) zero le here = absurd (omega arith)
rises_between (x ∷ xs) rising (suc i) (suc j) le here = rises_between xs (and_right (list_all (nat_lt x) xs) _ rising) i j (omega arith) (omega arith)

same_number : (x y : ℕ) → x ≡ y → (x == y) ≡ true
same_number x y e = grind (arith, nat_tests)

pub other_number : (x y : ℕ) → (x ≡ y → ⊥) → (x == y) ≡ false
other_number x y other = grind (arith, eqb-true)

among_found : (xs : List ℕ) (x i : ℕ) → i < length xs → get_or xs i 0 ≡ x → is_among xs x ≡ true
among_found [] x i here e = absurd (omega arith)
among_found (y ∷ ys) x zero here e = or_from_left (y == x) _ (same_number y x e)
among_found (y ∷ ys) x (suc i) here e = or_from_right (y == x) _ (among_found ys x i (omega arith) e)

neither : (a b : Bool) → a ≡ false → b ≡ false → (a || b) ≡ false
neither a b h k = grind arith

among_absent : (xs : List ℕ) (x : ℕ) → ((k : ℕ) → k < length xs → get_or xs k 0 ≡ x → ⊥) → is_among xs x ≡ false
among_absent [] x none = refl
among_absent (y ∷ ys) x none = neither (y == x) _ (other_number y x (none 0 (omega arith))) (among_absent ys x (λ k here. none (suc k) (omega arith)))

-- a search among numbers that rise
pub searched_among : (xs : List ℕ) (x : ℕ) (r : Result ℕ ℕ) → is_rising nat_lt xs ≡ true → IsBinarySearchResult (λ y. nat_cmp y x) xs r → is_ok r ≡ is_among xs x
searched_among xs x (Ok i) rising found = let at = searched xs x (Ok i) found (rises_between xs rising) in sym (among_found xs x i at.0 at.1)
searched_among xs x (Err i) rising found =
    let at = searched xs x (Err i) found (rises_between xs rising) in
    sym (among_absent xs x (λ k here e. side k here e (at.1 k) (at.2 k)))
  where
    side : (k : ℕ) → k < length xs → get_or xs k 0 ≡ x → (k < i → get_or xs k 0 < x) → (i ≤ k → k < length xs → x < get_or xs k 0) → ⊥
    side k here e low high = grind arith

after_get : (p : Pair) (ps : List (ℕ × ℕ)) (j : ℕ) (d : ℕ × ℕ) → list_all (is_before p) (pairs_of ps) ≡ true → j < length ps → is_before p (pair_of (get_or ps j d)) ≡ true
after_get p [] j d all here = absurd (omega arith)
after_get p (q ∷ qs) zero d all here = and_left (is_before p (pair_of q)) _ all
after_get p (q ∷ qs) (suc j) d all here = after_get p qs j d (and_right (is_before p (pair_of q)) _ all) (omega arith)

-- those before a pair stand in front
pub partitioned : (ps : List (ℕ × ℕ)) (t : Pair) → is_rising is_before (pairs_of ps) ≡ true → IsPartitionedBy (λ y. is_before (pair_of y) t) ps
partitioned [] t rising i j d le here passes = absurd (omega arith)
partitioned (q ∷ qs) t rising zero zero d le here passes = passes
partitioned (q ∷ qs) t rising zero (suc j) d le here passes =
    before_through (pair_of q) (pair_of (get_or qs j d)) t (after_get (pair_of q) qs j d (and_left (list_all (is_before (pair_of q)) (pairs_of qs)) _ rising) (omega arith)) passes
partitioned (q ∷ qs) t rising (suc i) zero d le here passes = absurd (omega arith)
partitioned (q ∷ qs) t rising (suc i) (suc j) d le here passes =
    partitioned qs t (and_right (list_all (is_before (pair_of q)) (pairs_of qs)) _ rising) i j d (omega arith) (omega arith) passes

same_default : (ps : List (ℕ × ℕ)) (m : ℕ) (d e : ℕ × ℕ) → m < length ps → get_or ps m d ≡ get_or ps m e
same_default [] m d e here = absurd (omega arith)
same_default (q ∷ qs) zero d e here = refl
same_default (q ∷ qs) (suc m) d e here = same_default qs m d e (omega arith)

-- where a pair comes before another, all up to it do
pub before_up_to : (ps : List (ℕ × ℕ)) (t : Pair) (m : ℕ) (e : ℕ × ℕ) → is_rising is_before (pairs_of ps) ≡ true → m < length ps
    → is_before (pair_of (get_or ps m e)) t ≡ true → AllWithin (λ z. is_before (pair_of z) t ≡ true) ps 0 (m + 1)
before_up_to ps t m e rising here before = λ k d low high.
    partitioned ps t rising k m d (omega arith) here (subst (λ (z : ℕ × ℕ). is_before (pair_of z) t ≡ true) (same_default ps m e d here) before)

-- where it does not, none from it on does
pub none_from : (ps : List (ℕ × ℕ)) (t : Pair) (m : ℕ) (e : ℕ × ℕ) → is_rising is_before (pairs_of ps) ≡ true → m < length ps
    → is_before (pair_of (get_or ps m e)) t ≡ false → AllWithin (λ z. is_before (pair_of z) t ≡ false) ps m (length ps)
none_from ps t m e rising here other = λ k d low high. decided k d low high (is_before (pair_of (get_or ps k d)) t) refl
  where
    decided : (k : ℕ) (d : ℕ × ℕ) → m ≤ k → k < length ps → (b : Bool) → is_before (pair_of (get_or ps k d)) t ≡ b → is_before (pair_of (get_or ps k d)) t ≡ false
    decided k d low high true h = absurd (true≢false (sym (partitioned ps t rising m k d low high h)
        ∙ subst (λ (z : ℕ × ℕ). is_before (pair_of z) t ≡ false) (same_default ps m e d here) other))
    decided k d low high false h = h

same_itself : (p q : Pair) → q ≡ p → same_pair p q ≡ true
same_itself p q e = grind arith

not_before_itself : (p : Pair) → is_before p p ≡ true → ⊥
not_before_itself p h = grind (arith, nat_tests)

pair_found : (ps : List (ℕ × ℕ)) (t : Pair) (k : ℕ) (d : ℕ × ℕ) → k < length ps → pair_of (get_or ps k d) ≡ t → is_among_pairs (pairs_of ps) t ≡ true
pair_found [] t k d here e = absurd (omega arith)
pair_found (q ∷ qs) t zero d here e = or_from_left (same_pair t (pair_of q)) _ (same_itself t (pair_of q) e)
pair_found (q ∷ qs) t (suc k) d here e = or_from_right (same_pair t (pair_of q)) _ (pair_found qs t k d (omega arith) e)

pair_absent : (ps : List (ℕ × ℕ)) (t : Pair) (d : ℕ × ℕ) → ((k : ℕ) → k < length ps → pair_of (get_or ps k d) ≡ t → ⊥) → is_among_pairs (pairs_of ps) t ≡ false
pair_absent [] t d none = refl
pair_absent (q ∷ qs) t d none = neither (same_pair t (pair_of q)) _ (first (same_pair t (pair_of q)) refl) (pair_absent qs t d (λ k here. none (suc k) (omega arith)))
  where
    first : (b : Bool) → same_pair t (pair_of q) ≡ b → b ≡ false
    first b e = grind (arith, same_pair-true)

rises_at : (ps : List (ℕ × ℕ)) (i j : ℕ) (d : ℕ × ℕ) → is_rising is_before (pairs_of ps) ≡ true → i < j → j < length ps → is_before (pair_of (get_or ps i d)) (pair_of (get_or ps j d)) ≡ true
rises_at [] i j d rising lt here = absurd (omega arith)
rises_at (q ∷ qs) i zero d rising lt here = absurd (omega arith)
rises_at (q ∷ qs) zero (suc j) d rising lt here = after_get (pair_of q) qs j d (and_left (list_all (is_before (pair_of q)) (pairs_of qs)) _ rising) (omega arith)
rises_at (q ∷ qs) (suc i) (suc j) d rising lt here = rises_at qs i j d (and_right (list_all (is_before (pair_of q)) (pairs_of qs)) _ rising) (omega arith) (omega arith)

-- no pair stands behind those before it
pub pair_past : (ps : List (ℕ × ℕ)) (t : Pair) (n : ℕ) → IsPartitionPoint (λ y. is_before (pair_of y) t ≡ true) (λ y. is_before (pair_of y) t ≡ false) ps n
    → length ps ≤ n → is_among_pairs (pairs_of ps) t ≡ false
pair_past ps t n point past = pair_absent ps t (0, 0)
    (λ k here e. not_before_itself t (subst (λ (p : Pair). is_before p t ≡ true) e (point.0 k (0, 0) (omega arith) (omega arith))))

-- or it is the first of them
pub pair_at : (ps : List (ℕ × ℕ)) (t : Pair) (n : ℕ) (d : ℕ × ℕ) (b : Bool) → is_rising is_before (pairs_of ps) ≡ true
    → IsPartitionPoint (λ y. is_before (pair_of y) t ≡ true) (λ y. is_before (pair_of y) t ≡ false) ps n
    → n < length ps → b ≡ same_pair t (pair_of (get_or ps n d)) → b ≡ is_among_pairs (pairs_of ps) t
pair_at ps t n d b rising point here test = decided (same_pair t (pair_of (get_or ps n d))) refl
  where
    side : (k : ℕ) → (k < n) ⊎ ((k ≡ n) ⊎ (n < k))
    side k = grind arith

    elsewhere : same_pair t (pair_of (get_or ps n d)) ≡ false → (k : ℕ) → k < length ps → pair_of (get_or ps k d) ≡ t → ⊥
    elsewhere other k within e = grind (arith, not_before_itself, rises_at, same_itself, true≢false)

    decided : (a : Bool) → same_pair t (pair_of (get_or ps n d)) ≡ a → b ≡ is_among_pairs (pairs_of ps) t
    decided true e = test ∙ e ∙ sym (pair_found ps t n d here (sym (same_pair-true t (pair_of (get_or ps n d)) e)))
    decided false e = test ∙ e ∙ sym (pair_absent ps t d (elsewhere e))

-- the pair that was found is the one that is sought, or has another number
pub test_here : (x y w r : ℕ) → x ≡ w → (y == r) ≡ same_pair (record { w = w; r = r }) (record { w = x; r = y })
test_here x y w r e = rw e (both w (y == r) (r == y) (turned y r))
  where
    both : (n : ℕ) (a b : Bool) → a ≡ b → a ≡ ((n == n) && b)
    both n a b h = h ∙ ap (λ c. c && b) (sym (same_number n n refl))

    turned : (m n : ℕ) → (m == n) ≡ (n == m)
    turned m n = grind (arith, eqb-true, other_number, same_number, true≢false)

pub test_elsewhere : (x y w r : ℕ) → (x ≡ w → ⊥) → false ≡ same_pair (record { w = w; r = r }) (record { w = x; r = y })
test_elsewhere x y w r other = sym (ap (λ b. b && (r == y)) (other_number w x (λ e. other (sym e))))
