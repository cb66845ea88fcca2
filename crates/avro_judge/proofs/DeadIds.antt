-- The ids of the nodes without an entry are the greatest dead set.
use Rattle.std.proofs.Common.{◌≡◌, ℕ, zero, suc, ◌<◌, Bool, true, false, ◌&&◌, cond, List, [], ◌∷◌, ◌++◌, Option, inl, inr, length, refl, sym, ◌∙◌, subst, arith}
use Rattle.std.proofs.lemmas.Bool.{false≢true, and_from, eqb-true, eq-eqb, lt-ltb, cases_eq}
use Rattle.std.proofs.lemmas.List.{append-nil}
use Rattle.std.proofs.lemmas.List.Folds.{list_all-append, list_any-append}
use Rattle.std.specs.Prelude.{nat_lt, ◌==◌, is_none}
use Rattle.std.specs.List.{list_all}
use Rattle.avro_schema.specs.Node.{Node}
use Rattle.avro_certificate.specs.Closed.{is_among}
use Rattle.avro_certificate.specs.CertificateText.{is_rising}
use Rattle.avro_certificate.specs.Evidence.{IsGreatestDead}
use Rattle.avro_judge.specs.inside.Evidence.{dead_below}
use Rattle.avro_least.specs.Tables.{LeastTable, IsLowForData, AreDataShown}
use Rattle.avro_least.specs.SeenLeast.{table_of}
use Rattle.avro_least.specs.declared.kept.Least.{Least as KeptLeast}
use Rattle.avro_least.proofs.public.DeadNodes.{all_from, past_end, none_greatest}
use Rattle.avro_certificate.proofs.public.Tests.{and_left, and_right, or_cases, or_from_left, or_from_right}

module _ (table : LeastTable) where
  -- each node below the number without an entry is listed
  pub dead_listed : (n p : ℕ) → p < n → is_none (table p) ≡ true → is_among (dead_below table n) p ≡ true
  dead_listed zero p h none = absurd (omega (arith, h))
  dead_listed (suc n) p h none =
      list_any-append (λ y. y == p) (dead_below table n) (cond (is_none (table n)) (n ∷ []) [])
      ∙ elim (cases_eq p n) [
        | inl same ↦ or_from_right (is_among (dead_below table n) p) (is_among (cond (is_none (table n)) (n ∷ []) []) p) (last same)
        | inr apart ↦ or_from_left (is_among (dead_below table n) p) (is_among (cond (is_none (table n)) (n ∷ []) []) p) (dead_listed n p (omega (arith, h, apart)) none)
      ]
    where
      last : p ≡ n → is_among (cond (is_none (table n)) (n ∷ []) []) p ≡ true
      last same =
          subst (λ (b : Bool). is_among (cond b (n ∷ []) []) p ≡ true) (sym (subst (λ (x : ℕ). is_none (table x) ≡ true) same none))
          (or_from_left (n == p) false (eq-eqb n p (sym same)))

  -- each that is listed is such a node
  pub listed_dead : (n p : ℕ) → is_among (dead_below table n) p ≡ true → (p < n) × (is_none (table p) ≡ true)
  listed_dead zero p h = absurd (false≢true h)
  listed_dead (suc n) p h =
      elim (or_cases (is_among (dead_below table n) p) (is_among (cond (is_none (table n)) (n ∷ []) []) p)
      (sym (list_any-append (λ y. y == p) (dead_below table n) (cond (is_none (table n)) (n ∷ []) [])) ∙ h)) [
        | inl before ↦ (let found = listed_dead n p before in (omega (arith, found.0), found.1))
        | inr last ↦ chosen (is_none (table n)) refl last
      ]
    where
      chosen : (b : Bool) → is_none (table n) ≡ b → is_among (cond b (n ∷ []) []) p ≡ true → (p < suc n) × (is_none (table p) ≡ true)
      chosen false e there = absurd (false≢true there)
      chosen true e there = elim (or_cases (n == p) false there) [
        | inl same ↦ (let is = eqb-true n p same in (omega (arith, is), subst (λ (x : ℕ). is_none (table x) ≡ true) is e))
        | inr none ↦ absurd (false≢true none)
      ]

  rising_after : (xs : List ℕ) (n : ℕ) → is_rising nat_lt xs ≡ true → list_all (λ x. nat_lt x n) xs ≡ true → is_rising nat_lt (xs ++ n ∷ []) ≡ true
  rising_after [] n h k = refl
  rising_after (x ∷ xs) n h k =
      and_from (list_all (nat_lt x) (xs ++ n ∷ [])) (is_rising nat_lt (xs ++ n ∷ []))
      (list_all-append (nat_lt x) xs (n ∷ []) ∙ and_from (list_all (nat_lt x) xs) (nat_lt x n && true) (and_left (list_all (nat_lt x) xs) (is_rising nat_lt xs) h)
      (and_from (nat_lt x n) true (and_left (nat_lt x n) (list_all (λ y. nat_lt y n) xs) k) refl))
      (rising_after xs n (and_right (list_all (nat_lt x) xs) (is_rising nat_lt xs) h) (and_right (nat_lt x n) (list_all (λ y. nat_lt y n) xs) k))

  pub dead_rising : (n : ℕ) → is_rising nat_lt (dead_below table n) ≡ true
  dead_rising zero = refl
  dead_rising (suc n) = chosen (is_none (table n)) (dead_rising n)
    where
      chosen : (b : Bool) → is_rising nat_lt (dead_below table n) ≡ true → is_rising nat_lt (dead_below table n ++ cond b (n ∷ []) []) ≡ true
      chosen true before = rising_after (dead_below table n) n before (all_from (λ x. nat_lt x n) (dead_below table n) (λ x m. lt-ltb x n (listed_dead n x m).0))
      chosen false before = rw (append-nil (dead_below table n)) before

module _ (writer : List Node) (limit : ℕ) (es : List (Option KeptLeast)) (low : IsLowForData writer limit (table_of es)) (shown : AreDataShown writer limit (table_of es))
    (one_each : length es ≡ length writer) where
  -- exactly the nodes without an entry are listed
  pub dead_is : (p : ℕ) → is_among (dead_below (table_of es) (length es)) p ≡ is_none (table_of es p)
  dead_is p = chosen (is_none (table_of es p)) refl (is_among (dead_below (table_of es) (length es)) p) refl
    where
      chosen : (a : Bool) → is_none (table_of es p) ≡ a → (b : Bool) → is_among (dead_below (table_of es) (length es)) p ≡ b
          → is_among (dead_below (table_of es) (length es)) p ≡ is_none (table_of es p)
      chosen true e b f = dead_listed (table_of es) (length es) p (past_end es p e) e ∙ sym e
      chosen false e true f = absurd (false≢true (sym e ∙ (listed_dead (table_of es) (length es) p f).1))
      chosen false e false f = f ∙ sym e

  pub dead_greatest : IsGreatestDead writer (dead_below (table_of es) (length es))
  dead_greatest =
      none_greatest writer limit (table_of es) (dead_below (table_of es) (length es)) low shown (λ p none. omega (arith, past_end es p none, one_each)) dead_is
