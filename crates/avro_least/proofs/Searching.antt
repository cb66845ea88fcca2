-- Entries that fall.
use Rattle.std.proofs.Common.{◌≡◌, ◌<◌, ℕ, nat_lt, ◌==◌, ◌&&◌, Bool, true, false, cond, List, Option, Some, None, inl, inr, length, get_or, refl, sym, ◌∙◌, ap, subst, arith, slice_get, set}
use Rattle.std.proofs.lemmas.Bool.{false≢true, cases_lt, ltb-true}
use Rattle.std.proofs.lemmas.List.{length-set}
use Rattle.std.proofs.lemmas.List.Sums.{sum_by-set}
use Rattle.std.proofs.lemmas.Option.{slice_get-get_or, slice_get_past}
use Rattle.avro_certificate.proofs.public.Tests.{and_right, or_cases}
use Rattle.avro_least.specs.Tables.{Least, no_parts}
use Rattle.avro_least.specs.SeenLeast.{seen, given_entry, improves, weight, weights}
use Rattle.avro_least.specs.declared.kept.Least.{Least as KeptLeast}
use Rattle.avro_least.specs.inside.Falling.{lowered}
use Rattle.avro_least.proofs.Rounds.{weight_falls}

-- nothing improves the least of all
none_better : (a : Option Least) → improves a (Some no_parts) ≡ true → ⊥
none_better None h = false≢true h
none_better (Some a) h = elim (or_cases (nat_lt a.nodes 0) (a.nodes == 0 && nat_lt a.depth 0) h) [
  | inl fewer ↦ absurd (omega (arith, ltb-true a.nodes 0 fewer))
  | inr less ↦ absurd (omega (arith, ltb-true a.depth 0 (and_right (a.nodes == 0) (nat_lt a.depth 0) less)))
]

-- so what is improved is within
pub improves_within : (es : List (Option KeptLeast)) (i : ℕ) (found : Option KeptLeast) → improves (seen found) (given_entry (slice_get es i)) ≡ true → i < length es
improves_within es i found better = elim (cases_lt i (length es)) [
  | inl within ↦ within
  | inr past ↦ absurd (none_better (seen found) (subst (λ (o : Option (Option KeptLeast)). improves (seen found) (given_entry o) ≡ true) (slice_get_past es i past) better))
]

-- a better entry is set, another one is not
pub lowered_better : (es : List (Option KeptLeast)) (i : ℕ) (found : Option KeptLeast) → improves (seen found) (given_entry (slice_get es i)) ≡ true → lowered es i found ≡ set es i found
lowered_better es i found h = ap (λ t. cond t (set es i found) es) h

pub lowered_worse : (es : List (Option KeptLeast)) (i : ℕ) (found : Option KeptLeast) → improves (seen found) (given_entry (slice_get es i)) ≡ false → lowered es i found ≡ es
lowered_worse es i found h = ap (λ t. cond t (set es i found) es) h

-- an entry that is set, where it is better, makes the table weigh less
pub set_weighs_less : (es : List (Option KeptLeast)) (i : ℕ) (found : Option KeptLeast) → improves (seen found) (given_entry (slice_get es i)) ≡ true
    → weights (set es i found) < weights es
set_weighs_less es i found better =
    let within : i < length es = improves_within es i found better in
    let lighter : weight found < weight (get_or es i None) =
    weight_falls found (get_or es i None)
    (subst (λ (o : Option (Option KeptLeast)). improves (seen found) (given_entry o) ≡ true) (slice_get-get_or es i None within) better) in
    omega (arith, lighter, sum_by-set weight es i found None within)

pub length_lowered : (es : List (Option KeptLeast)) (i : ℕ) (found : Option KeptLeast) → length (lowered es i found) ≡ length es
length_lowered es i found = chosen (improves (seen found) (given_entry (slice_get es i)))
  where
    chosen : (t : Bool) → length (cond t (set es i found) es) ≡ length es
    chosen true = length-set es i found
    chosen false = refl
