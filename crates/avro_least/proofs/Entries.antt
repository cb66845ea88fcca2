-- Half of some entries has all that is kept of an index.
use Rattle.std.proofs.Common.{◌≡◌, ◌∙◌, ◌<◌, ◌≤◌, ℕ, suc, Bool, true, false, cond, List, [], ◌∷◌, ◌++◌, Some, length, refl, sym, ap, subst, arith, ◌==◌, slice_get, slice_index_or}
use Rattle.std.proofs.lemmas.Bool.{cond-false, eqb-true, false_from_ne_true}
use Rattle.avro_compare.specs.Entries.{AreAscending, entry_at, first_entry}
use Rattle.avro_compare.proofs.public.Entries.{none_before}

module _ {A : Type 0} where
  pub ascends_from : (m n : ℕ) (es : List (ℕ × A)) → m ≤ n → AreAscending n es → AreAscending m es
  ascends_from m n [] low h = tt
  ascends_from m n (e ∷ es) low h = (omega (arith, low, h.0), h.1)

  ascends_low : (m : ℕ) (low high : List (ℕ × A)) → AreAscending m (low ++ high) → AreAscending m low
  ascends_low m [] high h = tt
  ascends_low m (e ∷ es) high h = (h.0, ascends_low (suc e.0) es high h.1)

  ascends_high : (m : ℕ) (low high : List (ℕ × A)) → AreAscending m (low ++ high) → AreAscending m high
  ascends_high m [] high h = h
  ascends_high m (e ∷ es) high h = ascends_from m (suc e.0) high (omega (arith, h.0)) (ascends_high (suc e.0) es high h.1)

  -- in the half whose first index is at most this one
  in_high : (m k : ℕ) (low : List (ℕ × A)) (e : ℕ × A) (es : List (ℕ × A)) → AreAscending m (low ++ e ∷ es) → e.0 ≤ k → entry_at (low ++ e ∷ es) k ≡ entry_at (e ∷ es) k
  in_high m k [] e es h there = refl
  in_high m k (l ∷ ls) e es h there =
      let first = ascends_high (suc l.0) ls (e ∷ es) h.1 in
      cond-false (l.0 == k) (Some l.1) (entry_at (ls ++ e ∷ es) k) (false_from_ne_true (l.0 == k) (λ t. absurd (omega (arith, eqb-true l.0 k t, first.0, there))))
      ∙ in_high (suc l.0) k ls e es h.1 there

  -- or in the other
  in_low : (m n k : ℕ) (low high : List (ℕ × A)) → AreAscending n high → k < n → entry_at (low ++ high) k ≡ entry_at low k
  in_low m n k [] high h there = none_before k n high h there
  in_low m n k (l ∷ ls) high h there = ap (cond (l.0 == k) (Some l.1)) (in_low m n k ls high h there)

  module _ (es low high : List (ℕ × A)) (k : ℕ) (is : es ≡ low ++ high) (order : AreAscending 0 es) where
    pub low_ordered : AreAscending 0 low
    low_ordered = ascends_low 0 low high (subst (λ (xs : List (ℕ × A)). AreAscending 0 xs) is order)

    pub high_ordered : AreAscending 0 high
    high_ordered = ascends_high 0 low high (subst (λ (xs : List (ℕ × A)). AreAscending 0 xs) is order)

    pub high_read : (d : ℕ × A) → 0 < length high → (slice_index_or high 0 d).0 ≤ k → entry_at es k ≡ entry_at high k
    high_read d some there = by high refl some there
      where
        by : (xs : List (ℕ × A)) → high ≡ xs → 0 < length xs → (slice_index_or xs 0 d).0 ≤ k → entry_at es k ≡ entry_at high k
        by [] e some there = absurd (omega (arith, some))
        by (x ∷ xs) e some there =
            let whole : es ≡ low ++ x ∷ xs = is ∙ ap (λ (ys : List (ℕ × A)). low ++ ys) e in
            ap (λ (ys : List (ℕ × A)). entry_at ys k) whole
            ∙ in_high 0 k low x xs (subst (λ (ys : List (ℕ × A)). AreAscending 0 ys) whole order) there
            ∙ ap (λ (ys : List (ℕ × A)). entry_at ys k) (sym e)

    pub low_read : (d : ℕ × A) → 0 < length high → k < (slice_index_or high 0 d).0 → entry_at es k ≡ entry_at low k
    low_read d some there = by high refl some there
      where
        by : (xs : List (ℕ × A)) → high ≡ xs → 0 < length xs → k < (slice_index_or xs 0 d).0 → entry_at es k ≡ entry_at low k
        by [] e some there = absurd (omega (arith, some))
        by (x ∷ xs) e some there =
            let ordered = subst (λ (ys : List (ℕ × A)). AreAscending 0 ys) e high_ordered in
            ap (λ (ys : List (ℕ × A)). entry_at ys k) is
            ∙ in_low 0 x.0 k low high (subst (λ (ys : List (ℕ × A)). AreAscending x.0 ys) (sym e) (omega arith, ordered.1)) there

  -- of one entry at most
  pub first_alone : (es : List (ℕ × A)) (k : ℕ) → length es ≤ 1 → first_entry es k ≡ entry_at es k
  first_alone [] k h = refl
  first_alone (e ∷ []) k h = refl
  first_alone (e ∷ (f ∷ es)) k h = absurd (omega (arith, h))

  -- what is kept of an index is one of the entries
  pub entry_place : (es : List (ℕ × A)) (k : ℕ) (a : A) → entry_at es k ≡ Some a → (n : ℕ) × (n < length es) × (slice_get es n ≡ Some (k, a))
  entry_place [] k a is = absurd cc
  entry_place (e ∷ es) k a is = chosen (e.0 == k) refl is (entry_place es k a)
    where
      chosen : (t : Bool) → (e.0 == k) ≡ t → cond t (Some e.1) (entry_at es k) ≡ Some a
          → (entry_at es k ≡ Some a → (n : ℕ) × (n < length es) × (slice_get es n ≡ Some (k, a)))
          → (n : ℕ) × (n < length (e ∷ es)) × (slice_get (e ∷ es) n ≡ Some (k, a))
      chosen true same got later = (0, omega arith, ap (λ (i : ℕ). Some (i, e.1)) (eqb-true e.0 k same) ∙ ap (λ (b : A). Some (k, b)) (value got))
        where
          value : {b : A} → Some b ≡ Some a → b ≡ a
          value s = cc
      chosen false other got later = let found = later got in (suc found.0, omega (arith, found.1), found.2)
