-- What a schema's rules say of each of its nodes.
use Rattle.std.proofs.Common.{◌≡◌, ℕ, zero, suc, ◌+◌, true, List, [], ◌∷◌, refl, subst, arith}
use Rattle.std.specs.Prelude.{slice_get, unwrap_or, bytes_eq}
use Rattle.std.specs.List.{list_all, flat_map}
use Rattle.std.proofs.lemmas.Bool.{and_parts}
use Rattle.avro_schema.specs.Distinct.{are_distinct}
use Rattle.avro_schema.specs.Node.{Node, FieldNode, node_at, edges_of}
use Rattle.avro_schema.specs.WellFormed.{field_names, are_fields, is_schema, is_edge, is_good_node, are_good_nodes, meets_its_rules}
use Rattle.avro_compare.specs.Resolve.{fields_at}

-- each node of a list meets the rules of its kind
abbrev pub MeetRules : List Node → Type 0
MeetRules nodes = (id : ℕ) → meets_its_rules nodes (node_at nodes id) ≡ true

rules-at : (nodes : List Node) (from : ℕ) (ns : List Node) (k : ℕ) → are_good_nodes nodes from ns ≡ true → meets_its_rules nodes (unwrap_or (slice_get ns k) Node.null) ≡ true
rules-at nodes from [] k h = refl
rules-at nodes from (n ∷ ns) zero h = grind arith
rules-at nodes from (n ∷ ns) (suc k) h = rules-at nodes (suc from) ns k (and_parts (is_good_node nodes from n) (are_good_nodes nodes (suc from) ns) h).1

good-all : (nodes : List Node) → is_schema nodes ≡ true → are_good_nodes nodes 0 nodes ≡ true
good-all nodes h = grind arith

-- so do those of a schema
pub MeetRules-from_is_schema : (nodes : List Node) → is_schema nodes ≡ true → MeetRules nodes
MeetRules-from_is_schema nodes h id = rules-at nodes 0 nodes id (good-all nodes h)

edges-from : (nodes : List Node) (from id : ℕ) (ns : List Node) (k : ℕ) → are_good_nodes nodes from ns ≡ true → id ≡ from + k
    → list_all (is_edge nodes id) (edges_of (unwrap_or (slice_get ns k) Node.null)) ≡ true
edges-from nodes from id [] k h e = refl
edges-from nodes from id (n ∷ ns) zero h e =
    let same : from ≡ id = omega arith in
    subst (λ (i : ℕ). list_all (is_edge nodes i) (edges_of n) ≡ true) same (grind arith)
edges-from nodes from id (n ∷ ns) (suc k) h e =
    edges-from nodes (suc from) id ns k (and_parts (is_good_node nodes from n) (are_good_nodes nodes (suc from) ns) h).1 (omega arith)

-- the edges of a schema's node are edges from its id
pub edges-at : (nodes : List Node) (id : ℕ) → is_schema nodes ≡ true → list_all (is_edge nodes id) (edges_of (node_at nodes id)) ≡ true
edges-at nodes id h = edges-from nodes 0 id nodes id (good-all nodes h) (omega arith)

-- the fields of a node
pub good-fields : (nodes : List Node) (q : Node) → meets_its_rules nodes q ≡ true → are_fields nodes (fields_at q) ≡ true
good-fields nodes (Node.record_of name aliases fields) h = h
good-fields nodes _ h = refl

-- names of a node's fields are distinct
pub distinct_fields : (nodes : List Node) (id : ℕ) → is_schema nodes ≡ true → are_distinct bytes_eq (flat_map field_names (fields_at (node_at nodes id))) ≡ true
distinct_fields nodes id formed = of_fields (fields_at (node_at nodes id)) (good-fields nodes (node_at nodes id) (MeetRules-from_is_schema nodes formed id))
  where
    of_fields : (fs : List FieldNode) → are_fields nodes fs ≡ true → are_distinct bytes_eq (flat_map field_names fs) ≡ true
    of_fields fs h = grind arith
