-- The total of a record's fields, from those before one of them, that one, and those behind it.
use Rattle.std.proofs.Common.{◌≡◌, ℕ, suc, ◌+◌, ◌≤◌, ◌<◌, Bool, true, false, cond, List, [], ◌∷◌, ◌++◌, Option, Some, None, length, drop, get_or, refl, sym, ◌∙◌, ap, subst, arith, inl, inr, max, map, nat_le, slice_get, ◌==◌}
use Rattle.std.proofs.lemmas.Bool.{cases_Bool, cases_eq, leb-true, leb-false, le-leb, eq-eqb, ne_eqb}
use Rattle.std.proofs.lemmas.List.{drop_more}
use Rattle.avro_least.specs.Tables.{Least, LeastTable, ErringTable, capped, together, all_of, no_parts}
use Rattle.avro_least.specs.Asked.{Row, err_of_row}
use Rattle.avro_least.specs.BuiltErrors.{part_of_row, total_from}
use Rattle.avro_least.specs.SeenAsk.{row_of, rows_of}
use Rattle.avro_least.specs.declared.pairs.asking.FieldAsk.{FieldAsk}
use Rattle.avro_compare.proofs.public.Lists.{get_before, get_last}

abbrev both : Least → Least → Least
both a b = record { nodes = a.nodes + b.nodes; depth = max a.depth b.depth }

same_least : (a b : Least) → a.nodes ≡ b.nodes → a.depth ≡ b.depth → a ≡ b
same_least a b n d = λ i. record { nodes = n i; depth = d i }

pub both_swap : (a b : Least) → both a b ≡ both b a
both_swap a b = same_least (both a b) (both b a) (omega arith) (omega arith)

module _ (limit : ℕ) where
  is_few : (e : Least) → e.nodes ≤ limit → capped limit e ≡ e
  is_few e h = ap (λ t. cond t e (record { nodes = suc limit; depth = 0 })) (le-leb e.nodes limit h)

  is_many : (e : Least) → limit < e.nodes → capped limit e ≡ record { nodes = suc limit; depth = 0 }
  is_many e h = chosen (nat_le e.nodes limit) refl
    where
      chosen : (t : Bool) → nat_le e.nodes limit ≡ t → cond t e (record { nodes = suc limit; depth = 0 }) ≡ record { nodes = suc limit; depth = 0 }
      chosen true m = absurd (omega (arith, h, leb-true e.nodes limit m))
      chosen false m = refl

  both_around : (a b c : Least) → both a (both b c) ≡ both (both a b) c
  both_around a b c = same_least (both a (both b c)) (both (both a b) c) (omega arith) (omega arith)

  -- above the limit nothing is told apart, however much is added before or behind
  capped_behind : (a b : Least) → capped limit (both a (capped limit b)) ≡ capped limit (both a b)
  capped_behind a b = elim (cases_Bool (nat_le b.nodes limit)) [
    | inl few ↦ ap (λ e. capped limit (both a e)) (is_few b (leb-true b.nodes limit few))
    | inr many ↦
        let over = leb-false b.nodes limit many in
        ap (λ e. capped limit (both a e)) (is_many b (omega (arith, over)))
        ∙ is_many (both a (record { nodes = suc limit; depth = 0 })) (omega arith) ∙ sym (is_many (both a b) (omega (arith, over)))
  ]

  capped_before : (a b : Least) → capped limit (both (capped limit a) b) ≡ capped limit (both a b)
  capped_before a b = ap (capped limit) (both_swap (capped limit a) b) ∙ capped_behind b a ∙ ap (capped limit) (both_swap b a)

  pub together_around : (a b c : Option Least) → together limit a (together limit b c) ≡ together limit (together limit a b) c
  together_around None b c = refl
  together_around (Some a) None c = refl
  together_around (Some a) (Some b) None = refl
  together_around (Some a) (Some b) (Some c) =
      ap Some (capped_behind a (both b c) ∙ ap (capped limit) (both_around a b c) ∙ sym (capped_before (both a b) c))

  nothing_before : (a : Least) → both no_parts a ≡ a
  nothing_before a = same_least (both no_parts a) a (omega arith) (omega arith)

  pub nothing_alone : together limit (Some no_parts) (Some no_parts) ≡ Some no_parts
  nothing_alone = ap Some (is_few (both no_parts no_parts) (omega arith) ∙ nothing_before no_parts)

  pub after_nothing : (a b : Option Least) → together limit (Some no_parts) (together limit a b) ≡ together limit a b
  after_nothing None b = refl
  after_nothing (Some a) None = refl
  after_nothing (Some a) (Some b) = ap Some (capped_behind no_parts (both a b) ∙ ap (capped limit) (nothing_before (both a b)))

  module _ (table : LeastTable) (erring : ErringTable) where
    pub total_at_first : (k : ℕ) (rows : List Row) → total_from limit table erring k 0 rows ≡ together limit (Some no_parts) (total_from limit table erring k 0 rows)
    total_at_first k [] = sym nothing_alone
    total_at_first k (row ∷ rows) = sym (after_nothing (part_of_row table erring (0 == k) row) (total_from limit table erring k 1 rows))

    -- past the chosen field
    pub past : (k j : ℕ) (rows : List Row) → k < j → total_from limit table erring k j rows ≡ all_of limit table (map (λ r. r.node) rows)
    past k j [] h = refl
    past k j (row ∷ rows) h = ap (λ b. together limit (part_of_row table erring b row) (total_from limit table erring k (suc j) rows)) (ne_eqb j k (λ e. omega (arith, e, h)))
        ∙ ap (together limit (table row.node)) (past k (suc j) rows (omega (arith, h)))

    pub total_here : (i : ℕ) (rows : List FieldAsk) (d : FieldAsk) → i < length rows
        → total_from limit table erring i i (rows_of (drop i rows))
        ≡ together limit (err_of_row erring (row_of (get_or rows i d))) (all_of limit table (map (λ r. r.node) (rows_of (drop (i + 1) rows))))
    total_here i rows d h = ap (λ (xs : List FieldAsk). total_from limit table erring i i (rows_of xs)) (drop_more rows i d h)
        ∙ ap (λ b. together limit (part_of_row table erring b (row_of (get_or rows i d))) (total_from limit table erring i (suc i) (rows_of (drop (i + 1) rows)))) (eq-eqb i i refl)
        ∙ ap (together limit (err_of_row erring (row_of (get_or rows i d)))) (past i (suc i) (rows_of (drop (i + 1) rows)) (omega arith))

    total_more : (k i : ℕ) (rows : List FieldAsk) (d : FieldAsk) → i < length rows → i < k
        → total_from limit table erring k i (rows_of (drop i rows))
        ≡ together limit (table (get_or rows i d).node.0) (total_from limit table erring k (i + 1) (rows_of (drop (i + 1) rows)))
    total_more k i rows d h later =
        let next : suc i ≡ i + 1 = omega arith in
        ap (λ (xs : List FieldAsk). total_from limit table erring k i (rows_of xs)) (drop_more rows i d h)
        ∙ ap (λ b. together limit (part_of_row table erring b (row_of (get_or rows i d))) (total_from limit table erring k (suc i) (rows_of (drop (i + 1) rows)))) (ne_eqb i k (λ e. omega (arith, e, later)))
        ∙ ap (λ (n : ℕ). together limit (table (get_or rows i d).node.0) (total_from limit table erring k n (rows_of (drop (i + 1) rows)))) next

    pub all_here : (i : ℕ) (rows : List FieldAsk) (d : FieldAsk) → i < length rows
        → together limit (table (get_or rows i d).node.0) (all_of limit table (map (λ r. r.node) (rows_of (drop (i + 1) rows))))
        ≡ all_of limit table (map (λ r. r.node) (rows_of (drop i rows)))
    all_here i rows d h = sym (ap (λ (xs : List FieldAsk). all_of limit table (map (λ r. r.node) (rows_of xs))) (drop_more rows i d h))

    -- one more field before
    pub before_more : (k i : ℕ) (rows : List FieldAsk) (d : FieldAsk) (a whole : Option Least) → i < length rows → i < k
        → whole ≡ together limit a (total_from limit table erring k i (rows_of (drop i rows)))
        → whole ≡ together limit (together limit a (table (get_or rows i d).node.0)) (total_from limit table erring k (i + 1) (rows_of (drop (i + 1) rows)))
    before_more k i rows d a whole h later is = is ∙ ap (together limit a) (total_more k i rows d h later)
        ∙ together_around a (table (get_or rows i d).node.0) (total_from limit table erring k (i + 1) (rows_of (drop (i + 1) rows)))

-- what holds of each entry, and of one more
pub get_each : {A : Type 0} (P : ℕ → Option A → Type 0) (old new : List A) (x : A) (i : ℕ) → new ≡ old ++ x ∷ [] → length old ≡ i
    → ((j : ℕ) → j < i → P j (slice_get old j)) → P i (Some x) → (j : ℕ) → j < i + 1 → P j (slice_get new j)
get_each {A} P old new x i is count front last j below = subst (λ (es : List A). P j (slice_get es j)) (sym is) (elim (cases_eq j i) [
  | inl here ↦
      let at : j ≡ length old = omega (arith, here, count) in
      subst (λ (n : ℕ). P n (slice_get (old ++ x ∷ []) n)) (sym at)
      (subst (λ (o : Option A). P (length old) o) (sym (get_last old x)) (subst (λ (n : ℕ). P n (Some x)) (sym count) last))
  | inr apart ↦ subst (λ (o : Option A). P j o) (sym (get_before old x j (omega (arith, below, apart, count)))) (front j (omega (arith, below, apart)))
])
