-- The pair of a lead is among those of all leads.
use Rattle.std.proofs.Common.{◌≡◌, ℕ, suc, true, List, ◌∷◌, Some, map, refl, ap, ◌∙◌, slice_get, option_map, ◌==◌, eq-eqb}
use Rattle.std.proofs.lemmas.Map.Keys.{any_passes_from_place}
use Rattle.std.proofs.lemmas.Option.{slice_get-map}
use Rattle.avro_compare.specs.Children.{Pair}
use Rattle.avro_compare.specs.Leads.{lead_pair}
use Rattle.avro_compare.specs.declared.comparison.Lead.{Lead}
use Rattle.avro_certificate.specs.Closed.{same_pair, is_among_pairs}
use Rattle.avro_certificate.proofs.public.Rising.{both_true}

pub same_itself : (p : Pair) → same_pair p p ≡ true
same_itself p = both_true (p.w == p.w) (p.r == p.r) (eq-eqb p.w p.w refl) (eq-eqb p.r p.r refl)

-- some leads have this one
pub record IsLead (leads : List Lead) (lead : Lead) : Type 0 where
  pub index : ℕ
  pub there : slice_get leads index ≡ Some lead

pub later_lead : (first : Lead) (leads : List Lead) (lead : Lead) → IsLead leads lead → IsLead (first ∷ leads) lead
later_lead first leads lead own = record { index = suc own.index; there = own.there }

-- the pair of a lead is among the pairs of all
pub lead_among : (leads : List Lead) (k : ℕ) (lead : Lead) → slice_get leads k ≡ Some lead → is_among_pairs (map lead_pair leads) (lead_pair lead) ≡ true
lead_among leads k lead h = any_passes_from_place (same_pair (lead_pair lead)) (map lead_pair leads) k (lead_pair lead)
    (slice_get-map lead_pair leads k ∙ ap (option_map lead_pair) h) (same_itself (lead_pair lead))
