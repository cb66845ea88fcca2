-- Where the first fault of a datum stands among the faults of pairs of nodes.
use Rattle.std.specs.Prelude.{◌≡◌, ℕ, Bool, true, false, ◌==◌, List, [], ◌∷◌, Some, slice_get}
use Rattle.avro_schema.specs.Node.{Node, node_at}
use Rattle.avro_compare.specs.Fault.{FaultCause, no_match, no_branch, missing_field_at, no_symbol, not_utf8, ResolutionFault}
use Rattle.avro_compare.specs.Children.{Pair}
use Rattle.avro_certificate.specs.Closed.{is_among}
use Rattle.avro_certificate.specs.Evidence.{IsReached}
use Rattle.avro_explain.specs.Details.{details_of}
use Rattle.avro_compare.specs.Leads.{leads_at}
use Rattle.avro_explain.specs.declared.found.Detail.{Detail}
use Rattle.avro_compare.specs.declared.comparison.Lead.{Lead}
use Rattle.avro_compare.specs.declared.comparison.Step.{Step}

-- the cause of what fails
abbrev pub cause_for : Detail → FaultCause
cause_for Detail.NoMatch = no_match
cause_for Detail.NoBranch = no_branch
cause_for Detail.NotUtf8 = not_utf8
cause_for (Detail.NoSymbol k) = no_symbol
cause_for (Detail.MissingField k) = missing_field_at k

-- whether a step goes down to this part of a datum: an item or an entry of any index, the writer's field, and 0 in a union of
-- the writer's
abbrev pub goes_to : Step → ℕ → Bool
goes_to (Step.Branch k) x = x == 0
goes_to (Step.Choice k) x = false
goes_to Step.Items x = true
goes_to Step.Values x = true
goes_to (Step.Field source field) x = source == x

-- a step to a branch of the reader's union
abbrev pub is_choice : Step → Bool
is_choice (Step.Choice k) = true
is_choice step = false

-- A path down a datum leads from a pair of nodes to another one, by pairs whose writer's nodes are not dead. The branch of a
-- reader's union is no step of it.
pub data IsPath (writer reader : List Node) (dead : List ℕ) : Pair → List ℕ → Pair → Type 0 where
  ends : (p : Pair) → IsPath writer reader dead p [] p
  chooses : (p : Pair) (j : ℕ) (lead : Lead) (path : List ℕ) (q : Pair) → slice_get (leads_at writer reader p.w p.r) j ≡ Some lead
      → is_choice lead.step ≡ true → is_among dead lead.w.0 ≡ false → IsPath writer reader dead (record { w = lead.w.0; r = lead.r.0 }) path q → IsPath writer reader dead p path q
  goes : (p : Pair) (j : ℕ) (lead : Lead) (x : ℕ) (path : List ℕ) (q : Pair) → slice_get (leads_at writer reader p.w p.r) j ≡ Some lead
      → goes_to lead.step x ≡ true → is_among dead lead.w.0 ≡ false → IsPath writer reader dead (record { w = lead.w.0; r = lead.r.0 }) path q → IsPath writer reader dead p (x ∷ path) q

-- a fault is, by its cause and its path, one of those at a pair that its path leads to
pub record IsFaultFrom (writer reader : List Node) (dead : List ℕ) (p : Pair) (fault : ResolutionFault) : Type 0 where
  pub live : is_among dead p.w ≡ false
  pub pair : Pair
  pub path : IsPath writer reader dead p fault.path pair
  pub index : ℕ
  pub detail : Detail
  pub there : slice_get (details_of writer reader (node_at writer pair.w) (node_at reader pair.r)) index ≡ Some detail
  pub cause : cause_for detail ≡ fault.cause

-- the same from the roots, at a pair that is reached
pub record IsAtOne (writer reader : List Node) (dead : List ℕ) (fault : ResolutionFault) : Type 0 where
  pub found : IsFaultFrom writer reader dead (record { w = 0; r = 0 }) fault
  pub reached : IsReached writer reader dead found.pair
