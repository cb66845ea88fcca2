-- The search by breadth that finds the pairs of nodes that the roots lead to, as places in a list.
use Rattle.std.specs.Prelude.{◌≡◌, ℕ, zero, suc, Bool, true, false, cond, List, [], ◌∷◌, ◌++◌, Option, Some, None, length, slice_get}
use Rattle.avro_schema.specs.Node.{Node}
use Rattle.avro_compare.specs.Leads.{leads_at}
use Rattle.avro_compare.specs.declared.comparison.Lead.{Lead}
use Rattle.avro_certificate.specs.Closed.{is_among, is_among_pairs}
use Rattle.avro_explain.specs.Places.{pair_of, pairs_of}
use Rattle.avro_explain.specs.declared.found.Place.{Place}

-- the place of the roots, unless the writer's is dead
abbrev pub roots_place : Bool → List Place
roots_place true = []
roots_place false = record { w = record { 0 = 0 }; r = record { 0 = 0 }; from = None } ∷ []

-- the places with one more, unless its pair is there
abbrev pub with_place : List Place → Place → List Place
with_place places p = cond (is_among_pairs (pairs_of places) (pair_of p)) places (places ++ p ∷ [])

-- the place that a step from a place leads to
abbrev pub led_from : ℕ → Lead → Place
led_from at lead = record { w = lead.w; r = lead.r; from = Some (at, lead.step) }

-- the same, unless its writer's node is dead
abbrev pub with_lead : List ℕ → ℕ → List Place → Lead → List Place
with_lead dead at places lead = cond (is_among dead lead.w.0) places (with_place places (led_from at lead))

-- the places with those that several steps lead to, unless their pairs are there or their writer's nodes are dead
abbrev pub with_leads : List ℕ → ℕ → List Place → List Lead → List Place
with_leads dead at places [] = places
with_leads dead at places (lead ∷ leads) = with_leads dead at (with_lead dead at places lead) leads

-- what a place leads to, in order
abbrev pub leads_of_place : List Node → List Node → Option Place → List Lead
leads_of_place writer reader None = []
leads_of_place writer reader (Some p) = leads_at writer reader p.w.0 p.r.0

-- The places when so many of them were gone through, the first of them first: what each leads to is added behind, in order,
-- unless its pair is there already.
abbrev pub places_after : List Node → List Node → List ℕ → ℕ → List Place
places_after writer reader dead zero = roots_place (is_among dead 0)
places_after writer reader dead (suc k) =
    with_leads dead k (places_after writer reader dead k) (leads_of_place writer reader (slice_get (places_after writer reader dead k) k))

-- these are all, by the search that went through each of them
abbrev pub AreSearched : List Node → List Node → List ℕ → List Place → Type 0
AreSearched writer reader dead places = places ≡ places_after writer reader dead (length places)
