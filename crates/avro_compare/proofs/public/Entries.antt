-- What is kept of some indices, read from the front as the indices pass, and put one after another.
use Rattle.std.proofs.Common.{◌≡◌, ◌∙◌, ◌<◌, ◌≤◌, ◌+◌, ℕ, suc, Bool, true, false, cond, List, [], ◌∷◌, ◌++◌, Option, Some, None, refl, sym, ap, subst, arith, ⊎_elim}
use Rattle.std.specs.Prelude.{◌==◌, slice_get}
use Rattle.std.proofs.lemmas.Bool.{cases_eq, cases_lt, cond-false, eq-eqb, eqb-true, false_from_ne_true, false≢true}
use Rattle.avro_schema.specs.Node.{FieldNode}
use Rattle.avro_compare.specs.Entries.{AreAscending, entry_at, first_entry, rest_entries}
use Rattle.avro_compare.specs.Pairs.{field_for}
use Rattle.avro_compare.specs.Planned.{AreForFrom, AreSourcesFrom, part_or_none}
use Rattle.avro_compare.specs.Source.{source_of}
use Rattle.avro_compare.specs.declared.comparison.At.{At}

apart : (i k : ℕ) → (i ≡ k → ⊥) → (i == k) ≡ false
apart i k ne = false_from_ne_true (i == k) (λ t. ne (eqb-true i k t))

-- ---- From the front

module _ {A : Type 0} where
  pub none_before : (n m : ℕ) (es : List (ℕ × A)) → AreAscending m es → n < m → entry_at es n ≡ None
  none_before n m [] h low = refl
  none_before n m (e ∷ es) h low =
      cond-false (e.0 == n) (Some e.1) (entry_at es n) (apart e.0 n (λ same. omega (arith, same, h.0, low)))
      ∙ none_before n (suc e.0) es h.1 (omega (arith, h.0, low))

  pub first_is : (n : ℕ) (es : List (ℕ × A)) → AreAscending n es → first_entry es n ≡ entry_at es n
  first_is n [] h = refl
  first_is n (e ∷ es) h = ap (cond (e.0 == n) (Some e.1)) (sym (none_before n (suc e.0) es h.1 (omega (arith, h.0))))

  pub rest_ascends : (n : ℕ) (es : List (ℕ × A)) → AreAscending n es → AreAscending (n + 1) (rest_entries es n)
  rest_ascends n [] h = tt
  rest_ascends n (e ∷ es) h = chosen (e.0 == n) refl
    where
      chosen : (t : Bool) → (e.0 == n) ≡ t → AreAscending (n + 1) (cond t es (e ∷ es))
      chosen true same = subst (λ (m : ℕ). AreAscending m es) (omega (arith, eqb-true e.0 n same)) h.1
      chosen false other = (omega (arith, h.0, λ (same : e.0 ≡ n). false≢true (sym other ∙ eq-eqb e.0 n same)), h.1)

  pub rest_same : (n k : ℕ) (es : List (ℕ × A)) → n < k → entry_at (rest_entries es n) k ≡ entry_at es k
  rest_same n k [] low = refl
  rest_same n k (e ∷ es) low = chosen (e.0 == n) refl
    where
      chosen : (t : Bool) → (e.0 == n) ≡ t → entry_at (cond t es (e ∷ es)) k ≡ entry_at (e ∷ es) k
      chosen true same = sym (cond-false (e.0 == k) (Some e.1) (entry_at es k) (apart e.0 k (λ here. omega (arith, here, eqb-true e.0 n same, low))))
      chosen false other = refl

-- the source of the next field, and those of the fields after it
module _ (n : ℕ) (ws rs : List FieldNode) (left : List (ℕ × ℕ)) (h : AreSourcesFrom n ws rs left) where
  pub first_source : (f : FieldNode) → slice_get rs n ≡ Some f → first_entry left n ≡ source_of ws f
  first_source f is = first_is n left h.0 ∙ h.1 n f (omega arith) is

  pub rest_sources : AreSourcesFrom (n + 1) ws rs (rest_entries left n)
  rest_sources = (rest_ascends n left h.0, λ k f low is. rest_same n k left (omega (arith, low)) ∙ h.1 k f (omega (arith, low)) is)

-- what the next field is for, and what those after it are for
module _ (n : ℕ) (ws rs : List FieldNode) (left : List (ℕ × At)) (h : AreForFrom n ws rs left) where
  pub first_for : part_or_none (first_entry left n) ≡ field_for ws rs n
  first_for = ap part_or_none (first_is n left h.0) ∙ h.1 n (omega arith)

  pub rest_for : AreForFrom (n + 1) ws rs (rest_entries left n)
  rest_for = (rest_ascends n left h.0, λ k low. ap part_or_none (rest_same n k left (omega (arith, low))) ∙ h.1 k (omega (arith, low)))

-- ---- One after another

abbrev pub AreBefore : {A : Type 0} → ℕ → List (ℕ × A) → Type 0
AreBefore m [] = Unit {0}
AreBefore m (e ∷ es) = (e.0 < m) × AreBefore m es

-- of the indices before this one, what a function says is there
pub record AreKept {A : Type 0} (f : ℕ → Option A) (m : ℕ) (es : List (ℕ × A)) : Type 0 where
  pub ascends : AreAscending 0 es
  pub before : AreBefore m es
  pub same : (k : ℕ) → k < m → entry_at es k ≡ f k

module _ {A : Type 0} where
  none_past : (m k : ℕ) (es : List (ℕ × A)) → AreBefore m es → m ≤ k → entry_at es k ≡ None
  none_past m k [] h low = refl
  none_past m k (e ∷ es) h low =
      cond-false (e.0 == k) (Some e.1) (entry_at es k) (apart e.0 k (λ same. omega (arith, same, h.0, low))) ∙ none_past m k es h.1 low

  before_more : (m : ℕ) (es : List (ℕ × A)) → AreBefore m es → AreBefore (suc m) es
  before_more m [] h = tt
  before_more m (e ∷ es) h = (omega (arith, h.0), before_more m es h.1)

  push_before : (m : ℕ) (es : List (ℕ × A)) (a : A) → AreBefore m es → AreBefore (suc m) (es ++ (m, a) ∷ [])
  push_before m [] a h = (omega arith, tt)
  push_before m (e ∷ es) a h = (omega (arith, h.0), push_before m es a h.1)

  push_ascends : (n m : ℕ) (es : List (ℕ × A)) (a : A) → AreAscending n es → AreBefore m es → n ≤ m → AreAscending n (es ++ (m, a) ∷ [])
  push_ascends n m [] a h b low = (low, tt)
  push_ascends n m (e ∷ es) a h b low = (h.0, push_ascends (suc e.0) m es a h.1 b.1 (omega (arith, b.0)))

  push_same : (m k : ℕ) (es : List (ℕ × A)) (a : A) → k < m → entry_at (es ++ (m, a) ∷ []) k ≡ entry_at es k
  push_same m k [] a low = cond-false (m == k) (Some a) None (apart m k (λ same. omega (arith, same, low)))
  push_same m k (e ∷ es) a low = ap (cond (e.0 == k) (Some e.1)) (push_same m k es a low)

  push_last : (m : ℕ) (es : List (ℕ × A)) (a : A) → AreBefore m es → entry_at (es ++ (m, a) ∷ []) m ≡ Some a
  push_last m [] a h = ap (λ (t : Bool). cond t (Some a) None) (eq-eqb m m refl)
  push_last m (e ∷ es) a h = cond-false (e.0 == m) (Some e.1) (entry_at (es ++ (m, a) ∷ []) m) (apart e.0 m (λ same. omega (arith, same, h.0))) ∙ push_last m es a h.1

  module _ (f : ℕ → Option A) (es : List (ℕ × A)) (m : ℕ) where
    pub kept_none : es ≡ [] → m ≡ 0 → AreKept f m es
    kept_none e zero = subst (λ (xs : List (ℕ × A)). AreKept f m xs) (sym e) (record { ascends = tt; before = tt; same = λ k low. absurd (omega (arith, low, zero)) })

    next : (new : List (ℕ × A)) → AreKept f (suc m) new → AreKept f (m + 1) new
    next new h = subst (λ (n : ℕ). AreKept f n new) (omega arith) h

    pub kept_skip : f m ≡ None → AreKept f m es → AreKept f (m + 1) es
    kept_skip e h = next es (record {
      ascends = h.ascends;
      before = before_more m es h.before;
      same = λ k low. ⊎_elim
          (λ here. subst (λ (j : ℕ). entry_at es j ≡ f j) (sym here) (none_past m m es h.before (omega arith) ∙ sym e))
          (λ ne. h.same k (omega (arith, low, ne)))
          (cases_eq k m);
    })

    pub kept_push : (a : A) (new : List (ℕ × A)) → new ≡ es ++ (m, a) ∷ [] → f m ≡ Some a → AreKept f m es → AreKept f (m + 1) new
    kept_push a new put e h = next new (subst (λ (xs : List (ℕ × A)). AreKept f (suc m) xs) (sym put) (record {
      ascends = push_ascends 0 m es a h.ascends h.before (omega arith);
      before = push_before m es a h.before;
      same = λ k low. ⊎_elim
          (λ here. subst (λ (j : ℕ). entry_at (es ++ (m, a) ∷ []) j ≡ f j) (sym here) (push_last m es a h.before ∙ sym e))
          (λ ne. push_same m k es a (omega (arith, low, ne)) ∙ h.same k (omega (arith, low, ne)))
          (cases_eq k m);
    }))

    pub kept_all : ((k : ℕ) → m ≤ k → f k ≡ None) → AreKept f m es → (k : ℕ) → entry_at es k ≡ f k
    kept_all past h k = ⊎_elim (λ low. h.same k low) (λ high. none_past m k es h.before high ∙ sym (past k high)) (cases_lt k m)
