-- What the code says of a pair of nodes.
use Rattle.std.specs.Prelude.{◌≡◌, ◌<◌, ℕ, suc, Bool, true, false, List, [], Option, Some, None, length, slice_get, unwrap_or, Err, Ok, cond}
use Rattle.avro_schema.specs.Value.{Value}
use Rattle.avro_schema.specs.Node.{Node, FieldNode, node_at, field_ids, items_node, values_node, branches_of}
use Rattle.avro_schema.specs.declared.schema.NodeId.{NodeId}
use Rattle.avro_compare.specs.Fault.{fault_here, no_symbol}
use Rattle.avro_compare.specs.Match.{match_within, is_match, first_match}
use Rattle.avro_compare.specs.Resolve.{Resolved, result_map, through}
use Rattle.avro_compare.specs.Seen.{cause_of}
use Rattle.avro_compare.specs.Source.{reader_field}
use Rattle.avro_compare.specs.declared.comparison.At.{At}
use Rattle.avro_compare.specs.declared.comparison.At.TheVariants.{Ignored, Pair}
use Rattle.avro_compare.specs.declared.comparison.Target.{Target}
use Rattle.avro_compare.specs.declared.comparison.Target.TheVariants.{Fault, To}
use Rattle.avro_compare.specs.declared.error.FaultKind.TheVariants.{NoBranch, NoMatch}
use Rattle.avro_compare.specs.declared.matching.Outcome.{Outcome}

-- what two nodes say of their match
abbrev pub IsOutcome : List Node → List Node → Node → Node → Outcome → Type 0
IsOutcome writer reader n m (Outcome.Known answer) = (steps : ℕ) → match_within steps writer reader n m ≡ answer
IsOutcome writer reader n m (Outcome.Parts a b) =
    ((steps : ℕ) → match_within (suc steps) writer reader n m ≡ match_within steps writer reader (node_at writer a.0) (node_at reader b.0))
    × (match_within 0 writer reader n m ≡ false)

-- the first branch that matches, with its node
abbrev pub IsFirst : List Node → List Node → Node → List ℕ → Option (ℕ × NodeId) → Type 0
IsFirst writer reader w ids None = first_match writer reader w ids ≡ None
IsFirst writer reader w ids (Some found) =
    (first_match writer reader w ids ≡ Some found.0) × (slice_get ids found.0 ≡ Some found.1.0)
    × (is_match writer reader w (node_at reader found.1.0) ≡ true) × (found.0 < length ids)

-- into a branch, where there is one
abbrev pub wrapped : Option ℕ → Resolved → Resolved
wrapped None resolved = resolved
wrapped (Some k) resolved = result_map (Value.union k) resolved

-- what resolution gives where a pair of nodes leads
abbrev pub targeted : List Node → Target → (Node → Resolved) → Resolved
targeted reader (Target.Fault kind) resolve = Err (fault_here (cause_of kind))
targeted reader (Target.To branch q) resolve = wrapped branch (resolve (node_at reader q.0))

-- where a pair of nodes leads into a reader's union: to its first branch that matches
abbrev pub branch_target : List ℕ → Option ℕ → Target
branch_target ids None = Fault NoBranch
branch_target ids (Some k) = To (Some k) (record { 0 = unwrap_or (slice_get ids k) 0 })

-- where a pair of nodes leads, if the writer's is not a union: by the first branch of a reader's union that matches, or
-- otherwise to the reader's node itself, if it matches
abbrev pub target_of : List Node → List Node → Node → NodeId → Node → Target
target_of writer reader n r (Node.union ids) = branch_target ids (first_match writer reader n ids)
target_of writer reader n r q = cond (is_match writer reader n q) (To None r) (Fault NoMatch)

-- the same of the nodes of two ids
abbrev pub target_at : List Node → List Node → NodeId → NodeId → Target
target_at writer reader w r = target_of writer reader (node_at writer w.0) r (node_at reader r.0)

-- a pair leads there, whatever is resolved
abbrev pub IsTarget : List Node → List Node → Node → Node → Target → Type 0
IsTarget writer reader w r target = (resolve : Node → Resolved) → through writer reader w r resolve ≡ targeted reader target resolve

-- the id of the node of an array's items
abbrev pub item_id : Node → ℕ
item_id n = unwrap_or (items_node n) 0

-- the id of the node of a map's values
abbrev pub value_id : Node → ℕ
value_id n = unwrap_or (values_node n) 0

-- the id of the node of a union's branch, by its index
abbrev pub branch_id : Node → ℕ → ℕ
branch_id n k = unwrap_or (slice_get (unwrap_or (branches_of n) []) k) 0

-- the reader's symbol, or that there is none
abbrev pub IsSymbol : Resolved → Option ℕ → Type 0
IsSymbol resolved (Some symbol) = resolved ≡ Ok (Value.enum symbol)
IsSymbol resolved None = resolved ≡ Err (fault_here no_symbol)

-- what the writer's field at an index is for
abbrev pub part_to : ℕ → Option FieldNode → At
part_to j None = Ignored
part_to j (Some f) = Pair (record { 0 = j }) (record { 0 = f.node })

-- what the writer's field at an index is for, of two records
abbrev pub field_for : List FieldNode → List FieldNode → ℕ → At
field_for ws rs k = part_to (unwrap_or (slice_get (field_ids ws) k) 0) (reader_field ws rs k)

-- the test of a node
abbrev pub Tells : Bool → Node → Node → Type 0
Tells true n k = n ≡ k
Tells false n k = n ≡ k → ⊥
