-- What a pair's entry is by the others is what it comes to alone or by one of its parts.
use Rattle.std.proofs.Common.{◌≡◌, ℕ, suc, true, List, [], ◌∷◌, Option, Some, None, ◌⊎◌, inl, inr, refl, sym, ◌∙◌, ap, subst, slice_get, unwrap_or, option_map, map, is_some}
use Rattle.std.proofs.lemmas.Bool.{false≢true}
use Rattle.std.proofs.lemmas.Option.{slice_get-map}
use Rattle.avro_compare.specs.Children.{Pair}
use Rattle.avro_least.specs.Tables.{Least, LeastTable, ErringTable, AtMost, capped, around, together, best_of, all_of}
use Rattle.avro_least.specs.Asked.{Row, Asked, err_of_row, err_of_rows, asked_value}
use Rattle.avro_least.specs.inside.Parts.{least_of_others, row_part, entry_of_part, part_at, value_alone, value_by_part}
use Rattle.avro_least.proofs.public.ShownData.{around_some, together_some, lesser_either, best_is}
use Rattle.avro_least.proofs.public.Quiet.{some_below}
use Rattle.avro_least.proofs.RowTotals.{both_swap, together_around}

-- two stand side by side in either order
together_swap : (limit : ℕ) (a b : Option Least) → together limit a b ≡ together limit b a
together_swap limit None None = refl
together_swap limit None (Some b) = refl
together_swap limit (Some a) None = refl
together_swap limit (Some a) (Some b) = ap (λ e. Some (capped limit e)) (both_swap a b)

-- of three, too
pub together_across : (limit : ℕ) (a b c : Option Least) → together limit a (together limit b c) ≡ together limit b (together limit a c)
together_across limit a b c = together_around limit a b c ∙ ap (λ e. together limit e c) (together_swap limit a b) ∙ sym (together_around limit b a c)

-- a branch's pair
pub branch_part : (w r : ℕ) (ids : List ℕ) (k p : ℕ) → slice_get ids k ≡ Some p → part_at w r (Asked.branches ids) k ≡ Some (record { w = p; r = r })
branch_part w r ids k p here = ap (λ (o : Option (Option Pair)). unwrap_or o None)
    (slice_get-map (λ (x : ℕ). Some (record { w = x; r = r })) ids k ∙ ap (option_map (λ (x : ℕ). Some (record { w = x; r = r }))) here)

module _ (limit : ℕ) (table : LeastTable) (erring : ErringTable) where
  -- a field's pair
  row_entry : (p : ℕ) (o : Option ℕ) → err_of_row erring (record { node = p; theirs = o }) ≡ entry_of_part erring (row_part (record { node = p; theirs = o }))
  row_entry p None = refl
  row_entry p (Some q) = refl

  -- one field, and the least data of the others
  abbrev pub by_row : List Row → ℕ → Option Least
  by_row rows k = together limit (entry_of_part erring (unwrap_or (slice_get (map row_part rows) k) None)) (least_of_others limit table (map (λ row. row.node) rows) k)

  -- the least by the fields is that by one of them
  row_chosen : (rows : List Row) → is_some (err_of_rows limit table erring rows) ≡ true → (k : ℕ) × (err_of_rows limit table erring rows ≡ by_row rows k)
  row_chosen [] h = absurd (false≢true h)
  row_chosen (row ∷ rows) h =
      elim (lesser_either (together limit (err_of_row erring row) (all_of limit table (map (λ r. r.node) rows))) (together limit (table row.node) (err_of_rows limit table erring rows)) h) [
        | inl first ↦ (0, first.1 ∙ ap (λ e. together limit e (all_of limit table (map (λ r. r.node) rows))) (row_entry row.node row.theirs))
        | inr later ↦
            let found = row_chosen rows (together_some limit (table row.node) (err_of_rows limit table erring rows) later.0).1 in (
              suc found.0,
              later.1 ∙ ap (together limit (table row.node)) found.1
                  ∙ together_across limit (table row.node) (entry_of_part erring (unwrap_or (slice_get (map row_part rows) found.0) None)) (least_of_others limit table (map (λ r. r.node) rows) found.0),
            )
      ]

  -- what a pair's entry is by the others is what it comes to alone or by one of its parts
  pub chosen_part : (w r : ℕ) (a : Asked) → is_some (asked_value limit table erring w r a) ≡ true
      → (asked_value limit table erring w r a ≡ value_alone table w a) ⊎ ((k : ℕ) × (asked_value limit table erring w r a ≡ value_by_part limit table erring w r a k))
  chosen_part w r Asked.quiet h = absurd (false≢true h)
  chosen_part w r Asked.whole h = inl refl
  chosen_part w r Asked.lone h = inl refl
  chosen_part w r (Asked.same q) h = inr (0, refl)
  chosen_part w r (Asked.part a b) h = inr (0, refl)
  chosen_part w r (Asked.branches ids) h =
      let best = best_is (λ p. erring p r) ids (around_some limit (best_of (λ p. erring p r) ids) h) in
      inr (best.branch, ap (around limit) (best.is ∙ sym (ap (entry_of_part erring) (branch_part w r ids best.branch best.id best.here))))
  chosen_part w r (Asked.fields rows) h =
      let found = row_chosen rows (around_some limit (err_of_rows limit table erring rows) h) in
      inr (found.0, ap (around limit) found.1)

  pub at_most_parts : (w r : ℕ) (a : Asked) (s d : ℕ) → AtMost (asked_value limit table erring w r a) s d
      → AtMost (value_alone table w a) s d ⊎ ((k : ℕ) × AtMost (value_by_part limit table erring w r a k) s d)
  at_most_parts w r a s d h = elim (chosen_part w r a (some_below (asked_value limit table erring w r a) s d h)) [
    | inl alone ↦ inl (subst (λ (e : Option Least). AtMost e s d) alone h)
    | inr found ↦ inr (found.0, subst (λ (e : Option Least). AtMost e s d) found.1 h)
  ]
