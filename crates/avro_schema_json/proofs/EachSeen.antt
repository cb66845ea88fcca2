-- What is so of each element of a list before one, and of what each key of a map leads to, as one more comes.
use Rattle.avro_schema_json.proofs.Words.{◌≡◌, ℕ, zero, suc, ◌+◌, ◌<◌, ◌≤◌, Bool, true, cond, List, [], ◌∷◌, ◌++◌, length, map, get_or, Option, Some, option_map, refl, sym, ap, ◌∙◌, arith, slice_get, bytes_eq, slice_get-map, slice_get_within, bytes_eq-Decides, same_Some, slice_get_read, slice_get-get_or, set, length-set, get_or-set_same}

-- ---- lists

pub append-before : {A : Type 0} (xs ys : List A) (i : ℕ) → i < length xs → slice_get (xs ++ ys) i ≡ slice_get xs i
append-before [] ys i below = absurd (omega (arith, below))
append-before (x ∷ xs) ys zero below = refl
append-before (x ∷ xs) ys (suc i) below = append-before xs ys i (omega (arith, below))

pub append-at : {A : Type 0} (xs ys : List A) (k j : ℕ) → k ≡ length xs → slice_get (xs ++ ys) (k + j) ≡ slice_get ys j
append-at [] ys zero j is = ap (slice_get ys) (omega arith)
append-at [] ys (suc k) j is = absurd (omega (arith, is))
append-at (x ∷ xs) ys zero j is = absurd (omega (arith, is))
append-at (x ∷ xs) ys (suc k) j is =
    let same : suc k + j ≡ suc (k + j) = omega arith in
    ap (slice_get (x ∷ xs ++ ys)) same ∙ append-at xs ys k j (omega (arith, is))

-- two elements of one place are the same
pub same-at : {A : Type 0} (xs : List A) (i : ℕ) (x y : A) → i < length xs → x ≡ get_or xs i x → y ≡ get_or xs i y → x ≡ y
same-at xs i x y below at there = same_Some x y (sym (slice_get_read xs (length xs) i x refl below at) ∙ slice_get_read xs (length xs) i y refl below there)

-- what is made of an element, once or twice
pub mapped-get : {A B : Type 0} (v : A → B) (xs : List A) (i : ℕ) (d : A) → i < length xs → slice_get (map v xs) i ≡ Some (v (get_or xs i d))
mapped-get v xs i d below = slice_get-map v xs i ∙ ap (option_map v) (slice_get-get_or xs i d below)

pub mapped-at : {A B : Type 0} (v : A → B) (xs : List A) (i : ℕ) (x : A) → i < length xs → x ≡ get_or xs i x → slice_get (map v xs) i ≡ Some (v x)
mapped-at v xs i x below at = mapped-get v xs i x below ∙ ap (λ y. Some (v y)) (sym at)

pub mapped-twice : {A B C : Type 0} (v : A → B) (w : B → C) (xs : List A) (i : ℕ) (x : A) → i < length xs → x ≡ get_or xs i x
    → slice_get (map w (map v xs)) i ≡ Some (w (v x))
mapped-twice v w xs i x below at = slice_get-map w (map v xs) i ∙ ap (option_map w) (mapped-at v xs i x below at)

abbrev pub Before : {A : Type 0} → List A → (ℕ → A → Type 0) → ℕ → Type 0
Before {A} xs P i = (k : ℕ) (x : A) → k < i → slice_get xs k ≡ Some x → P k x

pub before-next : {A : Type 0} (xs : List A) (i : ℕ) (x : A) (P Q : ℕ → A → Type 0) → slice_get xs i ≡ Some x → ((k : ℕ) (y : A) → P k y → Q k y) → Q i x
    → Before xs P i → Before xs Q (i + 1)
before-next xs i x P Q at kept here before k y within there = grind (arith, same_Some)

pub before-all : {A : Type 0} (xs : List A) (i : ℕ) (P : ℕ → A → Type 0) → length xs ≤ i → Before xs P i → (k : ℕ) (x : A) → slice_get xs k ≡ Some x → P k x
before-all xs i P past before k x at = before k x (omega (arith, past, slice_get_within xs k x at)) at

pub set-each : {A : Type 0} (xs : List A) (j : ℕ) (y : A) (F : ℕ → Option A → Type 0) → j < length xs → ((k : ℕ) → F k (slice_get xs k)) → F j (Some y)
    → (k : ℕ) → F k (slice_get (set xs j y) k)
set-each [] j y F below before this k = absurd (omega (arith, below))
set-each (x ∷ xs) zero y F below before this zero = this
set-each (x ∷ xs) zero y F below before this (suc k) = before (suc k)
set-each (x ∷ xs) (suc j) y F below before this zero = before zero
set-each (x ∷ xs) (suc j) y F below before this (suc k) = set-each xs j y (λ i. F (suc i)) (omega (arith, below)) (λ i. before (suc i)) this k

pub set-there : {A : Type 0} (xs : List A) (j : ℕ) (y : A) → j < length xs → slice_get (set xs j y) j ≡ Some y
set-there xs j y below = slice_get-get_or (set xs j y) j y (omega (arith, below, length-set xs j y)) ∙ ap Some (get_or-set_same xs j y y below)

-- ---- maps

pub put-each : {K V : Type 0} (same : K → K → Bool) → ((a b : K) → same a b ≡ true → a ≡ b) → (F : K → Option V → Type 0) (old new : K → Option V) (key : K) (v : V)
    → ((q : K) → new q ≡ cond (same key q) (Some v) (old q)) → ((q : K) → F q (old q)) → F key (Some v) → (q : K) → F q (new q)
put-each same exact F old new key v put before this q = grind arith

-- the same of each entry
pub put-all : {K V : Type 0} (same : K → K → Bool) → ((a b : K) → same a b ≡ true → a ≡ b) → (P : K → V → Type 0) (old new : K → Option V) (key : K) (v : V)
    → ((q : K) → new q ≡ cond (same key q) (Some v) (old q)) → ((q : K) (w : V) → old q ≡ Some w → P q w) → P key v → (q : K) (w : V) → new q ≡ Some w → P q w
put-all = grind (arith, put-each, same_Some)

pub exact-texts : (a b : List ℕ) → bytes_eq a b ≡ true → a ≡ b
exact-texts a b = (bytes_eq-Decides a b).0
