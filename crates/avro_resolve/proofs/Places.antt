-- What is kept of an index, by where a search among entries in order ends.
use Rattle.std.proofs.Common.{◌≡◌, ◌∙◌, ◌<◌, ◌≤◌, ℕ, zero, suc, Less, Equal, Greater, List, [], ◌∷◌, length, Some, None, refl, sym, subst, arith, ⊎_elim}
use Rattle.std.specs.Prelude.{◌==◌, slice_get, slice_index_or, unwrap_or}
use Rattle.std.specs.List.{HoldsAt}
use Rattle.std.specs.List.Sorted.{IsNonDecreasingBy, IsPartitionPoint}
use Rattle.std.specs.Ordering.{nat_cmp, ordering_index}
use Rattle.std.proofs.lemmas.Bool.{cases_lt, cond-true, cond-false, eq-eqb, ne_eqb}
use Rattle.std.proofs.lemmas.Bool.Decides.{nat_tests}
use Rattle.std.proofs.lemmas.Cmp.{ranked}
use Rattle.avro_schema.specs.Node.{field_ids}
use Rattle.avro_schema.specs.Seen.{seen_fields}
use Rattle.avro_schema.specs.declared.schema.Field.{Field}
use Rattle.avro_compare.specs.Entries.{AreAscending, entry_at}

module _ {A : Type 0} where
  at_least : (n : ℕ) (es : List (ℕ × A)) (j : ℕ) (d : ℕ × A) → AreAscending n es → j < length es → n ≤ (slice_index_or es j d).0
  at_least n [] j d h low = absurd (omega (arith, low))
  at_least n (x ∷ es) zero d h low = h.0
  at_least n (x ∷ es) (suc j) d h low = omega (arith, h.0, at_least (suc x.0) es j d h.1 (omega (arith, low)))

  rising : (n : ℕ) (es : List (ℕ × A)) (i j : ℕ) (d : ℕ × A) → AreAscending n es → i ≤ j → j < length es → (slice_index_or es i d).0 ≤ (slice_index_or es j d).0
  rising n [] i j d h le low = absurd (omega (arith, low))
  rising n (x ∷ es) zero zero d h le low = omega arith
  rising n (x ∷ es) zero (suc j) d h le low = omega (arith, at_least (suc x.0) es j d h.1 (omega (arith, low)))
  rising n (x ∷ es) (suc i) zero d h le low = absurd (omega (arith, le))
  rising n (x ∷ es) (suc i) (suc j) d h le low = rising (suc x.0) es i j d h.1 (omega (arith, le)) (omega (arith, low))

  passed : (x : ℕ × A) (es : List (ℕ × A)) (k : ℕ) → (x.0 ≡ k → ⊥) → entry_at (x ∷ es) k ≡ entry_at es k
  passed x es k apart = cond-false (x.0 == k) (Some x.1) (entry_at es k) (ne_eqb x.0 k apart)

  entry_there : (n : ℕ) (es : List (ℕ × A)) (j : ℕ) (d : ℕ × A) → AreAscending n es → j < length es
      → entry_at es (slice_index_or es j d).0 ≡ Some (slice_index_or es j d).1
  entry_there n [] j d h low = absurd (omega (arith, low))
  entry_there n (x ∷ es) zero d h low = cond-true (x.0 == x.0) (Some x.1) (entry_at es x.0) (eq-eqb x.0 x.0 refl)
  entry_there n (x ∷ es) (suc j) d h low =
      let less : j < length es = omega (arith, low) in
      passed x es (slice_index_or es j d).0 (λ same. omega (arith, same, at_least (suc x.0) es j d h.1 less)) ∙ entry_there (suc x.0) es j d h.1 less

  none_of : (es : List (ℕ × A)) (k : ℕ) → ((j : ℕ) (d : ℕ × A) → j < length es → (slice_index_or es j d).0 ≡ k → ⊥) → entry_at es k ≡ None
  none_of [] k apart = refl
  none_of (x ∷ es) k apart = passed x es k (apart 0 x (omega arith)) ∙ none_of es k (λ j d low. apart (suc j) d (omega (arith, low)))

module _ {A : Type 0} (es : List (ℕ × A)) (k : ℕ) (ascend : AreAscending 0 es) where
  -- a search that ends at an entry finds what is kept
  pub search_ends : (at : ℕ) (d : ℕ × A) → at < length es → HoldsAt (λ (e : ℕ × A). nat_cmp e.0 k ≡ Equal) es at → Some (slice_index_or es at d).1 ≡ entry_at es k
  search_ends at d low equal =
      let same : (slice_index_or es at d).0 ≡ k = ranked _ k _ (sym (equal d)) in
      sym (subst (λ (i : ℕ). entry_at es i ≡ Some (slice_index_or es at d).1) same (entry_there 0 es at d ascend low))

  rank_rises : IsNonDecreasingBy (λ (e : ℕ × A). ordering_index (nat_cmp e.0 k)) es
  rank_rises i j d le low = let rise = rising 0 es i j d ascend le low in grind (arith, nat_tests)

  -- one that ends between two finds that nothing is
  pub search_parts : (at : ℕ) → (IsNonDecreasingBy (λ (e : ℕ × A). ordering_index (nat_cmp e.0 k)) es
      → IsPartitionPoint (λ (e : ℕ × A). nat_cmp e.0 k ≡ Less) (λ (e : ℕ × A). nat_cmp e.0 k ≡ Greater) es at) → entry_at es k ≡ None
  search_parts at parted = none_of es k apart
    where
      parts : IsPartitionPoint (λ (e : ℕ × A). nat_cmp e.0 k ≡ Less) (λ (e : ℕ × A). nat_cmp e.0 k ≡ Greater) es at
      parts = parted rank_rises

      apart : (j : ℕ) (d : ℕ × A) → j < length es → (slice_index_or es j d).0 ≡ k → ⊥
      apart j d low same = ⊎_elim
          (λ before. let less : (slice_index_or es j d).0 < k = ranked _ k _ (sym (parts.0 j d (omega arith) before)) in omega (arith, less, same))
          (λ past. let more : k < (slice_index_or es j d).0 = ranked _ k _ (sym (parts.1 j d past low)) in omega (arith, more, same))
          (cases_lt j at)

-- the node of a field
pub node_then : (fs : List Field) (k : ℕ) (d : Field) → k < length fs → (slice_index_or fs k d).node.0 ≡ unwrap_or (slice_get (field_ids (seen_fields fs)) k) 0
node_then [] k d low = absurd (omega (arith, low))
node_then (f ∷ fs) zero d low = refl
node_then (f ∷ fs) (suc k) d low = node_then fs k d (omega (arith, low))

pub node_else : (fs : List Field) (k : ℕ) → length fs ≤ k → 0 ≡ unwrap_or (slice_get (field_ids (seen_fields fs)) k) 0
node_else [] k high = refl
node_else (f ∷ fs) zero high = absurd (omega (arith, high))
node_else (f ∷ fs) (suc k) high = node_else fs k (omega (arith, high))
