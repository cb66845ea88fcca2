-- What a schema's rules say of each of its nodes, and of the names of its types.
use Rattle.std.proofs.Common.{◌≡◌, ℕ, zero, suc, ◌+◌, ◌&&◌, true, List, [], ◌∷◌, length, filter_map, nat_lt, nat_le, refl, subst, arith}
use Rattle.std.specs.Prelude.{slice_get, unwrap_or}
use Rattle.std.specs.List.{list_all}
use Rattle.std.proofs.lemmas.Bool.{and_parts}
use Rattle.avro_name.specs.Name.{same_name}
use Rattle.avro_schema.specs.Distinct.{are_distinct}
use Rattle.avro_schema.specs.Node.{Node, node_at, node_name, edges_of}
use Rattle.avro_schema.specs.WellFormed.{max_nodes, is_schema, is_edge, has_good_names, meets_its_rules, is_good_node, are_good_nodes}

good_from : (nodes : List Node) (from id : ℕ) (ns : List Node) (k : ℕ) → are_good_nodes nodes from ns ≡ true → id ≡ from + k
    → is_good_node nodes id (unwrap_or (slice_get ns k) Node.null) ≡ true
good_from nodes from id [] k h e = refl
good_from nodes from id (n ∷ ns) zero h e =
    let same : from ≡ id = omega arith in
    subst (λ (i : ℕ). is_good_node nodes i n ≡ true) same (and_parts (is_good_node nodes from n) (are_good_nodes nodes (suc from) ns) h).0
good_from nodes from id (n ∷ ns) (suc k) h e =
    good_from nodes (suc from) id ns k (and_parts (is_good_node nodes from n) (are_good_nodes nodes (suc from) ns) h).1 (omega arith)

-- what a node that is good keeps
pub record IsGood (nodes : List Node) (id : ℕ) (n : Node) : Type 0 where
  pub edges : list_all (is_edge nodes id) (edges_of n) ≡ true
  pub named : has_good_names n ≡ true
  pub ruled : meets_its_rules nodes n ≡ true

pub good_at : (nodes : List Node) → is_schema nodes ≡ true → (id : ℕ) → IsGood nodes id (node_at nodes id)
good_at nodes h id =
    let n = node_at nodes id in
    let counted = nat_lt 0 (length nodes) && nat_le (length nodes) max_nodes in
    let first = (and_parts (counted && are_good_nodes nodes 0 nodes) (are_distinct same_name (filter_map node_name nodes)) h).0 in
    let good = good_from nodes 0 id nodes id (and_parts counted (are_good_nodes nodes 0 nodes) first).1 (omega arith) in
    let both = and_parts (list_all (is_edge nodes id) (edges_of n) && has_good_names n) (meets_its_rules nodes n) good in
    let begin = and_parts (list_all (is_edge nodes id) (edges_of n)) (has_good_names n) both.0 in
    record { edges = begin.0; named = begin.1; ruled = both.1 }

-- no name is that of two types
pub names_apart : (nodes : List Node) → is_schema nodes ≡ true → are_distinct same_name (filter_map node_name nodes) ≡ true
names_apart nodes h =
    (and_parts (nat_lt 0 (length nodes) && nat_le (length nodes) max_nodes && are_good_nodes nodes 0 nodes) (are_distinct same_name (filter_map node_name nodes)) h).1
