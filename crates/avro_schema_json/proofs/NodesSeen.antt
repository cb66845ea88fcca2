-- The nodes of the program, one after another.
use Rattle.avro_schema_json.proofs.Words.{◌≡◌, ℕ, ◌+◌, ◌<◌, ◌≤◌, Bool, true, false, List, length, get_or, Option, Some, refl, ap, arith, nat_lt, slice_get, unwrap_or, length-map, slice_get_past, slice_get-get_or, Node, node_at, node_without_defaults, without_defaults, all_without_defaults, raw_node_of, KeptNode as RawNode}
use Rattle.avro_schema_json.proofs.EachSeen.{mapped-twice, Before, before-next}

pub node-there : (raws : List RawNode) (i : ℕ) (raw : RawNode) → i < length raws → raw ≡ get_or raws i raw → slice_get (all_without_defaults raws) i ≡ Some (without_defaults raw)
node-there raws i raw below at = mapped-twice raw_node_of node_without_defaults raws i raw below at

pub node_here : (raws : List RawNode) (i : ℕ) (raw : RawNode) → i < length raws → raw ≡ get_or raws i raw → node_at (all_without_defaults raws) i ≡ without_defaults raw
node_here raws i raw below at = ap (λ (o : Option Node). unwrap_or o Node.null) (node-there raws i raw below at)

pub as_many : (raws : List RawNode) → length (all_without_defaults raws) ≡ length raws
as_many raws = simp length-map

-- what is so of each node before one
abbrev pub BeforeNode : List RawNode → (ℕ → Node → Type 0) → ℕ → Type 0
BeforeNode raws P i = Before (all_without_defaults raws) P i

pub next-node : (raws : List RawNode) (i : ℕ) (raw : RawNode) (P Q : ℕ → Node → Type 0) → i < length raws → raw ≡ get_or raws i raw → ((m : ℕ) (n : Node) → P m n → Q m n)
    → Q i (without_defaults raw) → BeforeNode raws P i → BeforeNode raws Q (i + 1)
next-node raws i raw P Q below at = before-next (all_without_defaults raws) i (without_defaults raw) P Q (node-there raws i raw below at)

-- and of all, if it is of null past the last one
pub all-nodes : (raws : List RawNode) (i : ℕ) (P : ℕ → Node → Type 0) → length raws ≤ i → ((m : ℕ) → length raws ≤ m → P m Node.null) → BeforeNode raws P i
    → (m : ℕ) → P m (node_at (all_without_defaults raws) m)
all-nodes raws i P past null before m = by (nat_lt m (length raws)) refl
  where
    nodes : List Node
    nodes = all_without_defaults raws

    by : (b : Bool) → nat_lt m (length raws) ≡ b → P m (node_at nodes m)
    by true e =
        let there : slice_get nodes m ≡ Some (get_or nodes m Node.null) = slice_get-get_or nodes m Node.null (grind (arith, e, as_many raws)) in
        rw there (before m (get_or nodes m Node.null) (grind (arith, e, past)) there)
    by false e = rw (slice_get_past nodes m (grind (arith, e, as_many raws))) (null m (grind (arith, e)))
