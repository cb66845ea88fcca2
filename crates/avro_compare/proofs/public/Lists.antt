-- Lists from an index on, and lists with one more at their end.
use Rattle.std.proofs.Common.{◌≡◌, ℕ, zero, suc, ◌+◌, ◌<◌, ◌≤◌, List, [], ◌∷◌, ◌++◌, drop, length, Some, None, refl, sym, ap, subst, arith}
use Rattle.std.specs.Prelude.{slice_index_or, slice_get}
use Rattle.avro_schema.specs.Seen.{seen_fields, field_of}
use Rattle.avro_schema.specs.declared.schema.Field.{Field}

-- a list from an index on, of which there is one more
pub next_in : {A : Type 0} (xs : List A) (i : ℕ) (d : A) → i < length xs → drop i xs ≡ slice_index_or xs i d ∷ drop (i + 1) xs
next_in xs i d low = subst (λ (j : ℕ). drop i xs ≡ slice_index_or xs i d ∷ drop j xs) (same i) (step xs i d low)
  where
    same : (i : ℕ) → suc i ≡ i + 1
    same i = omega arith

    step : {A : Type 0} (xs : List A) (i : ℕ) (d : A) → i < length xs → drop i xs ≡ slice_index_or xs i d ∷ drop (suc i) xs
    step [] i d low = absurd (omega (arith, low))
    step (x ∷ xs) zero d low = refl
    step (x ∷ xs) (suc i) d low = step xs i d (omega (arith, low))

pub one_longer : {E : Type 0} (xs : List E) (x : E) → length (xs ++ x ∷ []) ≡ suc (length xs)
one_longer [] x = refl
one_longer (y ∷ xs) x = ap suc (one_longer xs x)

pub get_before : {A : Type 0} (xs : List A) (x : A) (k : ℕ) → k < length xs → slice_get (xs ++ x ∷ []) k ≡ slice_get xs k
get_before [] x k low = absurd (omega (arith, low))
get_before (y ∷ xs) x zero low = refl
get_before (y ∷ xs) x (suc k) low = get_before xs x k (omega (arith, low))

pub get_last : {A : Type 0} (xs : List A) (x : A) → slice_get (xs ++ x ∷ []) (length xs) ≡ Some x
get_last [] x = refl
get_last (y ∷ xs) x = get_last xs x

pub get_past : {A : Type 0} (xs : List A) (x : A) (k : ℕ) → length xs < k → slice_get (xs ++ x ∷ []) k ≡ None
get_past [] x zero high = absurd (omega (arith, high))
get_past [] x (suc k) high = refl
get_past (y ∷ xs) x zero high = absurd (omega (arith, high))
get_past (y ∷ xs) x (suc k) high = get_past xs x k (omega (arith, high))

-- ---- Fields

pub seen_next : (fs : List Field) (i : ℕ) (d : Field) → i < length fs → seen_fields (drop i fs) ≡ field_of (slice_index_or fs i d) ∷ seen_fields (drop (i + 1) fs)
seen_next fs i d low = ap seen_fields (next_in fs i d low)

pub seen_at : (fs : List Field) (i : ℕ) (f : Field) → i < length fs → f ≡ slice_index_or fs i f → slice_get (seen_fields fs) i ≡ Some (field_of f)
seen_at [] i f low is = absurd (omega (arith, low))
seen_at (g ∷ fs) zero f low is = ap (λ (h : Field). Some (field_of h)) (sym is)
seen_at (g ∷ fs) (suc i) f low is = seen_at fs i f (omega (arith, low)) is

-- ---- Past the end

pub got_past : {A : Type 0} (xs : List A) (k : ℕ) → length xs ≤ k → slice_get xs k ≡ None
got_past [] k high = refl
got_past (x ∷ xs) zero high = absurd (omega (arith, high))
got_past (x ∷ xs) (suc k) high = got_past xs k (omega (arith, high))
