-- What the tests of two nodes say of their kinds. A node is plain where it is no union.
use Rattle.std.proofs.Common.{◌≡◌, ℕ, Bool, true, false, not, ◌||◌, List, [], ◌∷◌, Some, None, refl, arith}
use Rattle.std.proofs.lemmas.Bool.{false≢true, and_parts}
use Rattle.std.specs.Prelude.{is_some, is_none, slice_get, unwrap_or}
use Rattle.avro_schema.specs.Node.{Node, branches_of}
use Rattle.avro_schema.specs.Value.{Value, values_count}
use Rattle.avro_schema.specs.Fits.{fits, is_count, are_bytes}
use Rattle.avro_schema.specs.WellFormed.{branch_kind}
use Rattle.avro_compare.specs.Match.{is_match, first_match}
use Rattle.avro_compare.specs.Children.{has_fault_of_kind, has_local_fault, children_of}

-- a branch of a union is no union
pub no_union : (n : Node) → is_some (branch_kind n) ≡ true → branches_of n ≡ None
no_union (Node.union ids) h = absurd (false≢true h)
no_union _ h = refl

-- a node with branches is a union
pub union_of_branches : (n : Node) (ids : List ℕ) → branches_of n ≡ Some ids → n ≡ Node.union ids
union_of_branches (Node.union ps) ids h = grind arith
union_of_branches _ ids h = absurd (grind arith)

-- the fault of a plain node and a union
pub fault_of_union : (writer reader : List Node) (n : Node) (ids : List ℕ) → branches_of n ≡ None
    → has_local_fault writer reader n (Node.union ids) ≡ is_none (first_match writer reader n ids)
fault_of_union writer reader (Node.union ps) ids h = absurd (grind arith)
fault_of_union writer reader _ ids h = refl

-- the fault of two plain nodes
pub fault_of_others : (writer reader : List Node) (n q : Node) → branches_of n ≡ None → branches_of q ≡ None
    → has_local_fault writer reader n q ≡ (not (is_match writer reader n q) || has_fault_of_kind n q)
fault_of_others writer reader (Node.union ps) _ h k = absurd (grind arith)
fault_of_others writer reader _ (Node.union ps) h k = absurd (grind arith)
fault_of_others writer reader Node.null Node.null h k = refl
fault_of_others writer reader _ _ h k = refl

-- what a pair of a plain node and a union asks for
pub children_of_union : (writer reader : List Node) (w r : ℕ) (n : Node) (ids : List ℕ) (k : ℕ) → branches_of n ≡ None
    → first_match writer reader n ids ≡ Some k
    → children_of writer reader w r n (Node.union ids) ≡ record { w = w; r = unwrap_or (slice_get ids k) 0 } ∷ []
children_of_union writer reader w r (Node.union ps) ids k plain h = absurd (grind arith)
children_of_union writer reader w r _ ids k plain h = rw h refl

-- a datum that is no union's
abbrev pub is_plain_value : Value → Bool
is_plain_value (Value.union k v) = false
is_plain_value _ = true

-- such a datum does not fit a union
union_refused : (nodes : List Node) (ids : List ℕ) (v : Value) → is_plain_value v ≡ true → fits nodes (Node.union ids) v ≡ true → ⊥
union_refused nodes ids (Value.union k v) plain h = false≢true plain
union_refused nodes ids (Value.array vs) plain h = false≢true (and_parts (is_count (values_count vs)) false h).1
union_refused nodes ids (Value.map_of es) plain h = false≢true (and_parts _ false h).1
union_refused nodes ids (Value.fixed b) plain h = false≢true (and_parts (are_bytes b) false h).1
union_refused nodes ids _ plain h = false≢true h

-- the node of a datum that is no union's is none
pub plain_node : (nodes : List Node) (n : Node) (v : Value) → is_plain_value v ≡ true → fits nodes n v ≡ true → branches_of n ≡ None
plain_node nodes (Node.union ids) v plain h = absurd (union_refused nodes ids v plain h)
plain_node nodes _ v plain h = refl
