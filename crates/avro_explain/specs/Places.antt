-- The pairs of nodes that the roots of two schemas lead to, as places in a list, and the faults at them.
use Rattle.std.specs.Prelude.{◌≡◌, ◌<◌, ◌≤◌, ℕ, suc, Bool, true, false, cond, List, [], ◌∷◌, ◌++◌, Option, Some, None, map, length, slice_get}
use Rattle.avro_schema.specs.Distinct.{are_distinct}
use Rattle.avro_schema.specs.Node.{Node, node_at}
use Rattle.avro_compare.specs.Children.{Pair, children_of}
use Rattle.avro_certificate.specs.Closed.{same_pair, is_among, is_among_pairs}
use Rattle.avro_certificate.specs.Evidence.{IsReached}
use Rattle.avro_explain.specs.Details.{details_of}
use Rattle.avro_compare.specs.Leads.{leads_at}
use Rattle.avro_explain.specs.declared.found.Detail.{Detail}
use Rattle.avro_explain.specs.declared.found.Finding.{Finding}
use Rattle.avro_explain.specs.declared.found.Place.{Place}
use Rattle.avro_compare.specs.declared.comparison.Step.{Step}

-- the nodes that are marked, from an id on
abbrev pub marked_from : ℕ → List Bool → List ℕ
marked_from id [] = []
marked_from id (m ∷ ms) = cond m (id ∷ marked_from (suc id) ms) (marked_from (suc id) ms)

-- the nodes that are marked
abbrev pub marked : List Bool → List ℕ
marked marks = marked_from 0 marks

-- the pair of a place
abbrev pub pair_of : Place → Pair
pair_of p = record { w = p.w.0; r = p.r.0 }

-- the pairs of several places
abbrev pub pairs_of : List Place → List Pair
pairs_of places = map pair_of places

-- a place that a step from an earlier place leads to
pub record IsLed (writer reader : List Node) (places : List Place) (k : ℕ) (p : Place) (from : ℕ × Step) : Type 0 where
  pub before : from.0 < k
  pub place : Place
  pub there : slice_get places from.0 ≡ Some place
  pub index : ℕ
  pub leads : slice_get (leads_at writer reader place.w.0 place.r.0) index ≡ Some (record { step = from.1; w = p.w; r = p.r })

-- the same, or the roots' place
abbrev pub came : List Node → List Node → List Place → ℕ → Place → Option (ℕ × Step) → Type 0
came writer reader places k p None = (p.w.0 ≡ 0) × (p.r.0 ≡ 0)
came writer reader places k p (Some from) = IsLed writer reader places k p from

-- each place is that of the roots, or is reached by a step from an earlier one
abbrev pub ArePlaced : List Node → List Node → List Place → Type 0
ArePlaced writer reader places = (k : ℕ) (p : Place) → slice_get places k ≡ Some p → came writer reader places k p p.from

-- how many places, from the first on, were gone through when a place was found
abbrev pub round_of : Option (ℕ × Step) → ℕ
round_of None = 0
round_of (Some from) = suc from.0

-- no place stands before one that was found earlier
abbrev pub AreByBreadth : List Place → Type 0
AreByBreadth places = (j k : ℕ) (p q : Place) → slice_get places j ≡ Some p → slice_get places k ≡ Some q → j ≤ k → round_of p.from ≤ round_of q.from

-- a place of a pair that was found when so many places were gone through, or before
pub record IsFoundBy (places : List Place) (rounds : ℕ) (c : Pair) : Type 0 where
  pub index : ℕ
  pub place : Place
  pub there : slice_get places index ≡ Some place
  pub is : pair_of place ≡ c
  pub early : round_of place.from ≤ rounds

-- each child of a place, unless its writer's node is dead, was found at the latest from there
abbrev pub AreFollowed : List Node → List Node → List ℕ → List Place → ℕ → Type 0
AreFollowed writer reader dead places count = (k : ℕ) (p : Place) → slice_get places k ≡ Some p → k < count → (c : Pair)
    → is_among_pairs (children_of writer reader p.w.0 p.r.0 (node_at writer p.w.0) (node_at reader p.r.0)) c ≡ true → is_among dead c.w ≡ false
    → IsFoundBy places (suc k) c

-- exactly the pairs that the roots lead to, each once
pub record AreReached (writer reader : List Node) (dead : List ℕ) (pairs : List Pair) : Type 0 where
  pub all_reached : (p : Pair) → IsReached writer reader dead p → is_among_pairs pairs p ≡ true
  pub no_other : (p : Pair) → is_among_pairs pairs p ≡ true → IsReached writer reader dead p
  pub once : are_distinct same_pair pairs ≡ true

-- more pairs than a limit that the roots lead to, each once
pub record AreTooMany (writer reader : List Node) (dead : List ℕ) (limit : ℕ) (pairs : List Pair) : Type 0 where
  pub reached : (p : Pair) → is_among_pairs pairs p ≡ true → IsReached writer reader dead p
  pub once : are_distinct same_pair pairs ≡ true
  pub more : limit < length pairs

-- the faults of one place, in order
abbrev pub findings : ℕ → List Detail → List Finding
findings place [] = []
findings place (d ∷ ds) = record { place = place; detail = d } ∷ findings place ds

-- all faults of the two nodes of a place
abbrev pub findings_at : List Node → List Node → ℕ → Place → List Finding
findings_at writer reader index p = findings index (details_of writer reader (node_at writer p.w.0) (node_at reader p.r.0))

-- the faults of the places from an index on, in order
abbrev pub findings_from : List Node → List Node → ℕ → List Place → List Finding
findings_from writer reader index [] = []
findings_from writer reader index (p ∷ ps) = findings_at writer reader index p ++ findings_from writer reader (suc index) ps

-- exactly the faults of the places, each once
abbrev pub AreFaults : List Node → List Node → List Place → List Finding → Type 0
AreFaults writer reader places faults = faults ≡ findings_from writer reader 0 places
