-- Nodes are a schema exactly where they have no fault.
use Rattle.std.proofs.Common.{◌≡◌, ℕ, zero, suc, ◌+◌, ◌<◌, Bool, true, false, not, ◌&&◌, ◌||◌, List, [], ◌∷◌, length, refl, sym, ap, subst, ◌∙◌, arith, nat_lt, nat_le}
use Rattle.std.specs.Prelude.{bytes_eq, filter_map, flat_map, Contains, slice_index_or, ◌↔◌}
use Rattle.std.specs.List.{list_all, filter}
use Rattle.std.proofs.lemmas.Bool.{and_parts, or_parts, or_right, not-false, not_from_true, false≢true, false_from_ne_true}
use Rattle.std.proofs.lemmas.Option.{IfSome_then}
use Rattle.avro_name.specs.Name.{is_simple_name, same_name}
use Rattle.avro_schema.specs.Node.{Node, node_at, node_name}
use Rattle.avro_schema.specs.Distinct.{are_distinct}
use Rattle.avro_schema.specs.WellFormed.{max_nodes, max_count, is_default, field_names, has_good_default, has_good_names, meets_its_rules, is_good_node, are_good_nodes, is_schema}
use Rattle.avro_schema.specs.Faulty.{NodeFault, unknown_node, duplicate_name, invalid_name, invalid_union, invalid_symbols, duplicate_field, invalid_default, limit_exceeded, all_faults, has_good_edges, names_inside, has_union_rule, has_symbols_rule, has_fields_rule, has_defaults_rule, is_within_limit, breaks, some_breaks, list_breaks, has_fault, faults_of_nodes, IsThere, fault_of, IsRefused, IsRefusedSomewhere}
use Rattle.avro_schema.specs.declared.fault.DraftError.{DraftError}

-- a rule that is asked only if another holds
kept-under : (a b : Bool) → a ≡ true → (a && not b) ≡ false → b ≡ true
kept-under true b h k = not-false b k
kept-under false b h k = absurd (false≢true h)

unbroken-under : (a b : Bool) → b ≡ true → (a && not b) ≡ false
unbroken-under true b h = not_from_true b h
unbroken-under false b h = refl

-- ---- a node

-- the rules of each kind are those of a node that is good
record KindRules (nodes : List Node) (n : Node) : Type 0 where
  names : list_all is_simple_name (names_inside n) ≡ true
  branches : has_union_rule nodes n ≡ true
  symbols : has_symbols_rule n ≡ true
  fields : has_fields_rule n ≡ true
  defaults : has_defaults_rule nodes n ≡ true
  limit : is_within_limit n ≡ true

rules_meet : (nodes : List Node) (n : Node) → KindRules nodes n → meets_its_rules nodes n ≡ true
rules_meet nodes (Node.union ids) rules = rules.branches
rules_meet nodes (Node.record_of name aliases fields) rules = rw (rules.names, rules.fields, rules.defaults) refl
rules_meet nodes (Node.enum name aliases symbols default) rules =
    let three = and_parts (nat_lt 0 (length symbols) && are_distinct bytes_eq symbols) (is_default symbols default) rules.symbols in
    let two = and_parts (nat_lt 0 (length symbols)) (are_distinct bytes_eq symbols) three.0 in
    rw (two.0, rules.limit, rules.names, two.1, three.1) refl
rules_meet nodes (Node.fixed name aliases count) rules = rules.limit
rules_meet nodes _ rules = refl

no_rules : (nodes : List Node) (n : Node) → meets_its_rules nodes n ≡ true → KindRules nodes n
no_rules nodes (Node.union ids) met = record { names = refl; branches = met; symbols = refl; fields = refl; defaults = refl; limit = refl }
no_rules nodes (Node.record_of name aliases fields) met =
    let names = list_all is_simple_name (flat_map field_names fields) in
    let distinct = are_distinct bytes_eq (flat_map field_names fields) in
    let all = and_parts (names && distinct) (list_all (has_good_default nodes) fields) met in
    let two = and_parts names distinct all.0 in
    record { names = two.0; branches = refl; symbols = refl; fields = two.1; defaults = all.1; limit = refl }
no_rules nodes (Node.enum name aliases symbols default) met =
    let some = nat_lt 0 (length symbols) in
    let few = nat_le (length symbols) max_count in
    let names = list_all is_simple_name symbols in
    let distinct = are_distinct bytes_eq symbols in
    let five = and_parts (some && few && names && distinct) (is_default symbols default) met in
    let four = and_parts (some && few && names) distinct five.0 in
    let three = and_parts (some && few) names four.0 in
    let two = and_parts some few three.0 in
    record { names = three.1; branches = refl; symbols = rw (two.0, four.1, five.1) refl; fields = refl; defaults = refl; limit = two.1 }
no_rules nodes (Node.fixed name aliases count) met = record { names = refl; branches = refl; symbols = refl; fields = refl; defaults = refl; limit = met }
no_rules nodes _ met = record { names = refl; branches = refl; symbols = refl; fields = refl; defaults = refl; limit = refl }

good-from_none_broken : (nodes : List Node) (id : ℕ) (n : Node) → ((fault : NodeFault) → breaks fault nodes id n ≡ false) → is_good_node nodes id n ≡ true
good-from_none_broken nodes id n clean =
    let edges = not-false (has_good_edges nodes id n) (clean unknown_node) in
    let names = and_parts (list_all is_simple_name (names_inside n)) (has_good_names n)
    (not-false (list_all is_simple_name (names_inside n) && has_good_names n) (clean invalid_name)) in
    let rules = rules_meet nodes n (record {
      names = names.0;
      branches = kept-under (has_good_edges nodes id n) (has_union_rule nodes n) edges (clean invalid_union);
      symbols = not-false (has_symbols_rule n) (clean invalid_symbols);
      fields = not-false (has_fields_rule n) (clean duplicate_field);
      defaults = kept-under (has_good_edges nodes id n) (has_defaults_rule nodes n) edges (clean invalid_default);
      limit = not-false (is_within_limit n) (clean limit_exceeded);
    }) in
    rw (edges, names.1, rules) refl

none_broken-from_good : (fault : NodeFault) (nodes : List Node) (id : ℕ) (n : Node) → is_good_node nodes id n ≡ true → breaks fault nodes id n ≡ false
none_broken-from_good fault nodes id n good =
    let edges = has_good_edges nodes id n in
    let three = and_parts (edges && has_good_names n) (meets_its_rules nodes n) good in
    let two = and_parts edges (has_good_names n) three.0 in
    by_fault fault two.0 two.1 (no_rules nodes n three.1)
  where
    by_fault : (fault : NodeFault) → has_good_edges nodes id n ≡ true → has_good_names n ≡ true → KindRules nodes n → breaks fault nodes id n ≡ false
    by_fault unknown_node edges names rules = not_from_true (has_good_edges nodes id n) edges
    by_fault duplicate_name edges names rules = refl
    by_fault invalid_name edges names rules = not_from_true (list_all is_simple_name (names_inside n) && has_good_names n) (rw (rules.names, names) refl)
    by_fault invalid_union edges names rules = unbroken-under (has_good_edges nodes id n) (has_union_rule nodes n) rules.branches
    by_fault invalid_symbols edges names rules = not_from_true (has_symbols_rule n) rules.symbols
    by_fault duplicate_field edges names rules = not_from_true (has_fields_rule n) rules.fields
    by_fault invalid_default edges names rules = unbroken-under (has_good_edges nodes id n) (has_defaults_rule nodes n) rules.defaults
    by_fault limit_exceeded edges names rules = not_from_true (is_within_limit n) rules.limit

-- ---- nodes

good_nodes-from_none_broken : (nodes : List Node) (id : ℕ) (ns : List Node) → ((fault : NodeFault) → some_breaks fault nodes id ns ≡ false) → are_good_nodes nodes id ns ≡ true
good_nodes-from_none_broken nodes id [] clean = refl
good_nodes-from_none_broken nodes id (n ∷ ns) clean =
    let first = good-from_none_broken nodes id n (λ fault. (or_parts (breaks fault nodes id n) (some_breaks fault nodes (suc id) ns) (clean fault)).0) in
    let rest = good_nodes-from_none_broken nodes (suc id) ns (λ fault. (or_parts (breaks fault nodes id n) (some_breaks fault nodes (suc id) ns) (clean fault)).1) in
    rw (first, rest) refl

none_broken-from_good_nodes : (fault : NodeFault) (nodes : List Node) (id : ℕ) (ns : List Node) → are_good_nodes nodes id ns ≡ true → some_breaks fault nodes id ns ≡ false
none_broken-from_good_nodes fault nodes id [] good = refl
none_broken-from_good_nodes fault nodes id (n ∷ ns) good =
    let parts = and_parts (is_good_node nodes id n) (are_good_nodes nodes (suc id) ns) good in
    rw (none_broken-from_good fault nodes id n parts.0, none_broken-from_good_nodes fault nodes (suc id) ns parts.1) refl

pub is_schema-from_no_fault : (nodes : List Node) → ((fault : NodeFault) → has_fault fault nodes ≡ false) → is_schema nodes ≡ true
is_schema-from_no_fault nodes clean =
    let parts : (fault : NodeFault) → (list_breaks fault nodes ≡ false) × (some_breaks fault nodes 0 nodes ≡ false) =
    λ fault. or_parts (list_breaks fault nodes) (some_breaks fault nodes 0 nodes) (clean fault) in
    let counted = not-false (nat_lt 0 (length nodes) && nat_le (length nodes) max_nodes) (parts limit_exceeded).0 in
    let distinct = not-false (are_distinct same_name (filter_map node_name nodes)) (parts duplicate_name).0 in
    let good = good_nodes-from_none_broken nodes 0 nodes (λ fault. (parts fault).1) in
    rw (counted, good, distinct) refl

pub no_fault-from_is_schema : (nodes : List Node) → is_schema nodes ≡ true → (fault : NodeFault) → has_fault fault nodes ≡ false
no_fault-from_is_schema nodes formed fault =
    let counted = nat_lt 0 (length nodes) && nat_le (length nodes) max_nodes in
    let good = are_good_nodes nodes 0 nodes in
    let distinct = are_distinct same_name (filter_map node_name nodes) in
    let three = and_parts (counted && good) distinct formed in
    let two = and_parts counted good three.0 in
    rw (by_fault fault two.0 three.1, none_broken-from_good_nodes fault nodes 0 nodes two.1) refl
  where
    by_fault : (fault : NodeFault) → (nat_lt 0 (length nodes) && nat_le (length nodes) max_nodes) ≡ true
        → are_distinct same_name (filter_map node_name nodes) ≡ true → list_breaks fault nodes ≡ false
    by_fault duplicate_name counted distinct = not_from_true (are_distinct same_name (filter_map node_name nodes)) distinct
    by_fault limit_exceeded counted distinct = not_from_true (nat_lt 0 (length nodes) && nat_le (length nodes) max_nodes) counted
    by_fault unknown_node counted distinct = refl
    by_fault invalid_name counted distinct = refl
    by_fault invalid_union counted distinct = refl
    by_fault invalid_symbols counted distinct = refl
    by_fault duplicate_field counted distinct = refl
    by_fault invalid_default counted distinct = refl

-- nodes are a schema exactly where no fault is there
pub is_schema-where_no_fault : (nodes : List Node) → is_schema nodes ≡ true ↔ ((fault : NodeFault) → IsThere fault nodes → ⊥)
is_schema-where_no_fault nodes = (
  λ formed fault there. false≢true (sym (no_fault-from_is_schema nodes formed fault) ∙ there),
  λ none. is_schema-from_no_fault nodes (λ fault. false_from_ne_true (has_fault fault nodes) (none fault)),
)

-- ---- as a list

kept_at : (p : NodeFault → Bool) (xs : List NodeFault) (x : NodeFault) (k : ℕ) → k < length xs → slice_index_or xs k x ≡ x → p x ≡ true → Contains (filter p xs) x
kept_at p [] x k below at h = absurd (omega (arith, below))
kept_at p (y ∷ xs) x zero below at h =
    let here : p y ≡ true = ap p at ∙ h in
    rw here (0, omega arith, at)
kept_at p (y ∷ xs) x (suc k) below at h = by_test (p y) refl (kept_at p xs x k (omega (arith, below)) at h)
  where
    by_test : (b : Bool) → p y ≡ b → Contains (filter p xs) x → Contains (filter p (y ∷ xs)) x
    by_test true is c = rw is (suc c.0, omega (arith, c.1), c.2)
    by_test false is c = rw is c

none_kept : (p : NodeFault → Bool) (xs : List NodeFault) → ((x : NodeFault) → p x ≡ false) → filter p xs ≡ []
none_kept p [] h = refl
none_kept p (x ∷ xs) h = rw (h x, none_kept p xs h) refl

among_all : (fault : NodeFault) → Contains all_faults fault
among_all unknown_node = (0, omega arith, refl)
among_all duplicate_name = (1, omega arith, refl)
among_all invalid_name = (2, omega arith, refl)
among_all invalid_union = (3, omega arith, refl)
among_all invalid_symbols = (4, omega arith, refl)
among_all duplicate_field = (5, omega arith, refl)
among_all invalid_default = (6, omega arith, refl)
among_all limit_exceeded = (7, omega arith, refl)

no_element : (xs : List NodeFault) (x : NodeFault) → xs ≡ [] → Contains xs x → ⊥
no_element [] x is c = omega (arith, c.1)
no_element (y ∷ xs) x is c = cc

pub there-contains : (fault : NodeFault) (nodes : List Node) → IsThere fault nodes → Contains (faults_of_nodes nodes) fault
there-contains fault nodes there =
    let id = among_all fault in
    kept_at (λ f. has_fault f nodes) all_faults fault id.0 id.1 id.2 there

pub is_schema-from_no_faults : (nodes : List Node) → faults_of_nodes nodes ≡ [] → is_schema nodes ≡ true
is_schema-from_no_faults nodes none =
    (is_schema-where_no_fault nodes).1 (λ fault there. no_element (faults_of_nodes nodes) fault none (there-contains fault nodes there))

pub no_faults-from_is_schema : (nodes : List Node) → is_schema nodes ≡ true → faults_of_nodes nodes ≡ []
no_faults-from_is_schema nodes formed = none_kept (λ f. has_fault f nodes) all_faults (no_fault-from_is_schema nodes formed)

-- ---- as errors name them

broken_at : (fault : NodeFault) (nodes : List Node) (from : ℕ) (ns : List Node) (i id : ℕ) → i + from ≡ id → i < length ns
    → breaks fault nodes id (node_at ns i) ≡ true → some_breaks fault nodes from ns ≡ true
broken_at fault nodes from [] i id is below h = absurd (omega (arith, below))
broken_at fault nodes from (n ∷ ns) zero id is below h =
    let here : id ≡ from = omega (arith, is) in
    let first : breaks fault nodes from n ≡ true = subst (λ p. breaks fault nodes p n ≡ true) here h in
    rw first refl
broken_at fault nodes from (n ∷ ns) (suc i) id is below h =
    or_right (breaks fault nodes from n) (some_breaks fault nodes (suc from) ns) (broken_at fault nodes (suc from) ns i id (omega (arith, is)) (omega (arith, below)) h)

-- a rule that the node of some id breaks
pub broken-there : (fault : NodeFault) (nodes : List Node) (id : ℕ) → id < length nodes → breaks fault nodes id (node_at nodes id) ≡ true → IsThere fault nodes
broken-there fault nodes id below h =
    or_right (list_breaks fault nodes) (some_breaks fault nodes 0 nodes) (broken_at fault nodes 0 nodes id id (omega arith) below h)

pub somewhere-there : (e : DraftError) (nodes : List Node) → IsRefusedSomewhere nodes e → IsRefused nodes e
somewhere-there e nodes some = IfSome_then (fault_of e) some.2 (λ fault h. broken-there fault nodes some.0 some.1 h)

-- of a schema, no error names a fault, and so memory ran out
pub only_memory : (nodes : List Node) (e : DraftError) → IsRefused nodes e → is_schema nodes ≡ true → e ≡ DraftError.OutOfMemory
only_memory nodes DraftError.OutOfMemory refused formed = refl
only_memory nodes DraftError.UnknownNode refused formed = absurd ((is_schema-where_no_fault nodes).0 formed unknown_node refused)
only_memory nodes DraftError.DuplicateName refused formed = absurd ((is_schema-where_no_fault nodes).0 formed duplicate_name refused)
only_memory nodes DraftError.InvalidName refused formed = absurd ((is_schema-where_no_fault nodes).0 formed invalid_name refused)
only_memory nodes DraftError.InvalidUnion refused formed = absurd ((is_schema-where_no_fault nodes).0 formed invalid_union refused)
only_memory nodes DraftError.InvalidSymbols refused formed = absurd ((is_schema-where_no_fault nodes).0 formed invalid_symbols refused)
only_memory nodes DraftError.DuplicateField refused formed = absurd ((is_schema-where_no_fault nodes).0 formed duplicate_field refused)
only_memory nodes DraftError.InvalidDefault refused formed = absurd ((is_schema-where_no_fault nodes).0 formed invalid_default refused)
only_memory nodes DraftError.LimitExceeded refused formed = absurd ((is_schema-where_no_fault nodes).0 formed limit_exceeded refused)
