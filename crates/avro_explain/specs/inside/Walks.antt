-- How places are added, and what holds of them on the way.
use Rattle.std.specs.Prelude.{◌≡◌, ◌≤◌, ℕ, suc, true, false, cond, List, [], ◌∷◌, ◌++◌, Option, Some, None, map, length, slice_get}
use Rattle.avro_schema.specs.Distinct.{are_distinct}
use Rattle.avro_schema.specs.Node.{Node}
use Rattle.avro_compare.specs.Children.{lacks}
use Rattle.avro_compare.specs.declared.error.FaultKind.{FaultKind}
use Rattle.avro_certificate.specs.Closed.{same_pair, is_among}
use Rattle.avro_certificate.specs.Evidence.{IsReached}
use Rattle.avro_explain.specs.Places.{pair_of, pairs_of, ArePlaced, AreByBreadth, AreFollowed, IsFoundBy, round_of}
use Rattle.avro_explain.specs.declared.found.Detail.{Detail}
use Rattle.avro_explain.specs.declared.found.Detail.TheVariants.{NoMatch, NoBranch, NoSymbol}
use Rattle.avro_explain.specs.declared.found.Place.{Place}

-- the key of a place
abbrev pub key_of : Place → (ℕ × ℕ)
key_of p = (p.w.0, p.r.0)

abbrev pub keys_of : List Place → List (ℕ × ℕ)
keys_of places = map key_of places

-- what holds of the places when so many of them were gone through, and so many were begun
pub record IsWalk (writer reader : List Node) (dead : List ℕ) (count rounds : ℕ) (places : List Place) : Type 0 where
  pub root : is_among dead 0 ≡ false → IsFoundBy places 0 (record { w = 0; r = 0 })
  pub reached : (k : ℕ) (p : Place) → slice_get places k ≡ Some p → IsReached writer reader dead (pair_of p)
  pub once : are_distinct same_pair (pairs_of places) ≡ true
  pub placed : ArePlaced writer reader places
  pub early : (k : ℕ) (p : Place) → slice_get places k ≡ Some p → round_of p.from ≤ rounds
  pub breadth : AreByBreadth places
  pub counted : count ≤ length places
  pub followed : AreFollowed writer reader dead places count

-- the detail of a fault that a pair of nodes leads to
abbrev pub detail_for : FaultKind → Detail
detail_for FaultKind.NoBranch = NoBranch
detail_for _ = NoMatch

-- a symbol for which the reader has none
abbrev pub untaken_one : ℕ → Option ℕ → List Detail
untaken_one index None = NoSymbol index ∷ []
untaken_one index (Some k) = []

-- the symbols, from an index on, that a reader's node lacks
abbrev pub untaken_from : Node → ℕ → List (List ℕ) → List Detail
untaken_from q index [] = []
untaken_from q index (s ∷ ss) = cond (lacks q s) (NoSymbol index ∷ []) [] ++ untaken_from q (suc index) ss
