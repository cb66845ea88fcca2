-- An entry of a node that falls, where one is found for it.
use Rattle.std.proofs.Common.{◌≡◌, ◌<◌, ◌≤◌, ℕ, Bool, true, false, cond, List, Option, Some, None, inl, inr, length, refl, sym, ◌∙◌, ap, subst, arith, slice_get, unwrap_or, is_some, set}
use Rattle.std.proofs.lemmas.Bool.{cases_eq, cases_Bool, cases_lt}
use Rattle.std.proofs.lemmas.Option.{slice_get-get_or, slice_get_past}
use Rattle.avro_schema.specs.Node.{Node, node_at}
use Rattle.avro_schema.specs.WellFormed.{is_schema}
use Rattle.avro_least.specs.Tables.{Least, LeastTable, AtMost, AreDataShown, ShowsData, IsLowForData, least_datum}
use Rattle.avro_least.specs.SeenLeast.{seen, entry_of, table_of, given_entry, improves}
use Rattle.avro_least.specs.declared.kept.Least.{Least as KeptLeast}
use Rattle.avro_least.specs.inside.Falling.{lowered}
use Rattle.avro_least.specs.inside.Settled.{IsLowAt}
use Rattle.avro_least.proofs.Rounds.{set_here, set_other, improves_low}
use Rattle.avro_least.proofs.Searching.{improves_within, lowered_better, lowered_worse}
use Rattle.avro_least.proofs.public.ShownData.{step_shown}
use Rattle.avro_certificate.proofs.public.Shapes.{meets_rules_at}

-- a step over entries that have data has a datum
pub node_shown : (nodes : List Node) (limit : ℕ) (table : LeastTable) (w : ℕ) (e : Option Least) → is_schema nodes ≡ true
    → AreDataShown nodes limit table → e ≡ least_datum limit table (node_at nodes w) → is_some e ≡ true → ShowsData nodes limit (node_at nodes w) e
node_shown nodes limit table w e formed shown is =
    subst (λ (x : Option Least). is_some x ≡ true → ShowsData nodes limit (node_at nodes w) x) (sym is)
    (step_shown nodes limit table shown (node_at nodes w) (meets_rules_at nodes w formed))

module _ (es : List (Option KeptLeast)) (i : ℕ) (found : Option KeptLeast) where
  table_here : i < length es → given_entry (slice_get es i) ≡ table_of es i
  table_here within = rw (slice_get-get_or es i None within) refl

  better_here : improves (seen found) (given_entry (slice_get es i)) ≡ true → table_of (lowered es i found) i ≡ seen found
  better_here better = ap (λ (ks : List (Option KeptLeast)). table_of ks i) (lowered_better es i found better) ∙ ap entry_of (set_here es i found (improves_within es i found better))

  lowered_other : (p : ℕ) → (p ≡ i → ⊥) → table_of (lowered es i found) p ≡ table_of es p
  lowered_other p apart = chosen (improves (seen found) (given_entry (slice_get es i)))
    where
      chosen : (t : Bool) → table_of (cond t (set es i found) es) p ≡ table_of es p
      chosen true = ap entry_of (set_other es i p found apart)
      chosen false = refl

  lowered_worse_same : improves (seen found) (given_entry (slice_get es i)) ≡ false → (p : ℕ) → table_of (lowered es i found) p ≡ table_of es p
  lowered_worse_same worse p = ap (λ (ks : List (Option KeptLeast)). table_of ks p) (lowered_worse es i found worse)

  -- each entry stays that of a datum
  pub lowered_shown : (nodes : List Node) (limit : ℕ) → AreDataShown nodes limit (table_of es) → (is_some (seen found) ≡ true → ShowsData nodes limit (node_at nodes i) (seen found))
      → AreDataShown nodes limit (table_of (lowered es i found))
  lowered_shown nodes limit shown own p = elim (cases_eq p i) [
    | inl same ↦ subst (λ (q : ℕ). is_some (table_of (lowered es i found) q) ≡ true → ShowsData nodes limit (node_at nodes q) (table_of (lowered es i found) q)) (sym same)
        (elim (cases_Bool (improves (seen found) (given_entry (slice_get es i)))) [
          | inl better ↦ subst (λ (e : Option Least). is_some e ≡ true → ShowsData nodes limit (node_at nodes i) e) (sym (better_here better)) own
          | inr worse ↦ subst (λ (e : Option Least). is_some e ≡ true → ShowsData nodes limit (node_at nodes i) e) (sym (lowered_worse_same worse i)) (shown i)
        ])
    | inr apart ↦ subst (λ (e : Option Least). is_some e ≡ true → ShowsData nodes limit (node_at nodes p) e) (sym (lowered_other p apart)) (shown p)
  ]

  -- past the end no step lowers an entry
  pub past_low : (nodes : List Node) (limit : ℕ) → length es ≡ length nodes → length nodes ≤ i → IsLowAt nodes limit (table_of es) i
  past_low nodes limit same past s d m =
      subst (λ (o : Option (Option KeptLeast)). AtMost (entry_of o) s d) (sym (slice_get_past es i (omega (arith, same, past))))
      (subst (λ (o : Option Node). AtMost (least_datum limit (table_of es) (unwrap_or o Node.null)) s d) (slice_get_past nodes i past) m)

  -- where what a step gives does not improve the entry, it doesn't lower it
  pub worse_low : (nodes : List Node) (limit : ℕ) → length es ≡ length nodes → seen found ≡ least_datum limit (table_of es) (node_at nodes i)
      → improves (seen found) (given_entry (slice_get es i)) ≡ false → IsLowAt nodes limit (table_of es) i
  worse_low nodes limit same is worse = elim (cases_lt i (length es)) [
    | inl within ↦ (λ s d m. subst (λ (e : Option Least). AtMost e s d) (table_here within)
        (improves_low (seen found) (given_entry (slice_get es i)) s d worse (subst (λ (e : Option Least). AtMost e s d) (sym is) m)))
    | inr past ↦ past_low nodes limit same (omega (arith, same, past))
  ]
