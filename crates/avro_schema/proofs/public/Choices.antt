-- A schema's unions and enums have so few choices that the index of each is an int.
use Rattle.std.proofs.Common.{◌≡◌, ℕ, zero, suc, ◌^◌, ◌<◌, ◌≤◌, Bool, true, false, List, [], ◌∷◌, Option, Some, None, length, refl, sym, ap, ◌∙◌, subst, inl, inr, arith}
use Rattle.std.specs.Prelude.{nat_lt, nat_le, ◌&&◌, ◌||◌, not, bytes_eq, eqb, is_some, slice_get, unwrap_or, filter_map}
use Rattle.std.specs.List.{list_all, list_any, AllByRecursion, IsDistinct, cons_option}
use Rattle.std.proofs.lemmas.Bool.{and_parts, or_parts, or_cases, false≢true, not-true, eqb-true}
use Rattle.std.proofs.lemmas.Bool.Decides.{nat_tests, Decides-eqb}
use Rattle.std.proofs.lemmas.Slice.Eq.{bytes_eq-Decides}
use Rattle.std.proofs.lemmas.Map.Steps.{length-le_from_distinct_below}
use Rattle.avro_name.specs.Name.{is_simple_name}
use Rattle.avro_schema.specs.Node.{Node, node_at, node_name}
use Rattle.avro_schema.specs.WellFormed.{is_schema, is_edge, is_good_node, are_good_nodes, BranchKind, unnamed, named, branch_kind, same_kind, has_good_names, meets_its_rules, max_count}
use Rattle.avro_schema.specs.Distinct.{are_distinct}

-- at most 2^31 branches or symbols
abbrev pub HasFewChoices : Node → Type 0
HasFewChoices (Node.union ids) = length ids ≤ 2 ^ 31
HasFewChoices (Node.enum name aliases symbols default) = length symbols ≤ 2 ^ 31
HasFewChoices _ = Unit {0}

-- ---- The branches of a union are distinct ids

pub same_kind-self : (k : BranchKind) → same_kind k k ≡ true
same_kind-self (unnamed a) = (Decides-eqb a a).1 refl
same_kind-self (named name) =
    let first : bytes_eq name.namespace name.namespace ≡ true = (bytes_eq-Decides name.namespace name.namespace).1 refl in
    let second : bytes_eq name.simple name.simple ≡ true = (bytes_eq-Decides name.simple name.simple).1 refl in
    rw (first, second) refl

pub has_some : {A : Type 0} (o : Option A) → is_some o ≡ true → (x : A) × (o ≡ Some x)
has_some None h = absurd (false≢true h)
has_some (Some x) h = (x, refl)

module _ (nodes : List Node) where
  abbrev kind_at_id : ℕ → Option BranchKind
  kind_at_id id = branch_kind (node_at nodes id)

  another : (x y : ℕ) (k j : BranchKind) (t : Bool) → kind_at_id x ≡ Some k → kind_at_id y ≡ Some j → same_kind k j ≡ false → eqb x y ≡ t → t ≡ false
  another x y k j false e f apart h = refl
  another x y k j true e f apart h =
      let same : k ≡ j = one_kind (kind_at_id x) (kind_at_id y) k j (ap kind_at_id (eqb-true x y h)) e f in
      absurd (false≢true (sym apart ∙ ap (same_kind k) (sym same) ∙ same_kind-self k))
    where
      one_kind : (p q : Option BranchKind) (k j : BranchKind) → p ≡ q → p ≡ Some k → q ≡ Some j → k ≡ j
      one_kind p q k j a e f = cc

  kinds_apart : (x : ℕ) (k : BranchKind) (xs : List ℕ) → kind_at_id x ≡ Some k → list_all (λ id. is_some (kind_at_id id)) xs ≡ true
      → list_any (same_kind k) (filter_map kind_at_id xs) ≡ false → AllByRecursion (λ y. eqb x y ≡ false) xs
  kinds_apart x k [] e some none = tt
  kinds_apart x k (y ∷ ys) e some none =
      let parts = and_parts (is_some (kind_at_id y)) (list_all (λ id. is_some (kind_at_id id)) ys) some in
      let found = has_some (kind_at_id y) parts.0 in
      let none' = subst (λ (o : Option BranchKind). list_any (same_kind k) (cons_option o (filter_map kind_at_id ys)) ≡ false) found.1 none in
      let both = or_parts (same_kind k found.0) (list_any (same_kind k) (filter_map kind_at_id ys)) none' in
      (another x y k found.0 (eqb x y) e found.1 both.0 refl, kinds_apart x k ys e parts.1 both.1)

  pub distinct_ids : (xs : List ℕ) → list_all (λ id. is_some (kind_at_id id)) xs ≡ true → are_distinct same_kind (filter_map kind_at_id xs) ≡ true → IsDistinct eqb xs
  unfolding IsDistinct
  distinct_ids [] some h = tt
  distinct_ids (x ∷ xs) some h =
      let parts = and_parts (is_some (kind_at_id x)) (list_all (λ id. is_some (kind_at_id id)) xs) some in
      let found = has_some (kind_at_id x) parts.0 in
      let h' = subst (λ (o : Option BranchKind). are_distinct same_kind (cons_option o (filter_map kind_at_id xs)) ≡ true) found.1 h in
      let both = and_parts (not (list_any (same_kind found.0) (filter_map kind_at_id xs))) (are_distinct same_kind (filter_map kind_at_id xs)) h' in (
        kinds_apart x found.0 xs found.1 parts.1 (not-true (list_any (same_kind found.0) (filter_map kind_at_id xs)) both.0),
        distinct_ids xs parts.1 both.1,
      )

  ids_below : (from : ℕ) (xs : List ℕ) (q : ℕ) → list_all (is_edge nodes from) xs ≡ true → list_any (eqb q) xs ≡ true → q < length nodes
  ids_below from [] q edges h = absurd (false≢true h)
  ids_below from (x ∷ xs) q edges h =
      let parts = and_parts (is_edge nodes from x) (list_all (is_edge nodes from) xs) edges in
      let inside = and_parts (nat_lt x (length nodes)) (nat_lt from x || is_some (node_name (node_at nodes x))) parts.0 in
      elim (or_cases (eqb q x) (list_any (eqb q) xs) h) [
        | inl e ↦ below q x (length nodes) (eqb-true q x e) inside.0
        | inr e ↦ ids_below from xs q parts.1 e
      ]
    where
      below : (q x n : ℕ) → q ≡ x → nat_lt x n ≡ true → q < n
      below q x n e h = grind (arith, nat_tests)

  -- ---- Each node

  few_ids : (from : ℕ) (ids : List ℕ) → length nodes ≤ 4096 → list_all (is_edge nodes from) ids ≡ true → meets_its_rules nodes (Node.union ids) ≡ true
      → length ids ≤ 2 ^ 31
  few_ids from ids few edges h =
      let some = λ (id : ℕ). is_some (kind_at_id id) in
      let all = and_parts (nat_lt 0 (length ids) && list_all some ids) (are_distinct same_kind (filter_map kind_at_id ids)) h in
      let two = and_parts (nat_lt 0 (length ids)) (list_all some ids) all.0 in
      omega (arith, length-le_from_distinct_below ids (length nodes) (distinct_ids ids two.1 all.1) (λ q. ids_below from ids q edges))

  few_choices : (from : ℕ) (n : Node) → length nodes ≤ 4096 → is_good_node nodes from n ≡ true → HasFewChoices n
  few_choices from (Node.union ids) few h =
      let n = Node.union ids in
      let all = and_parts (list_all (is_edge nodes from) ids && has_good_names n) (meets_its_rules nodes n) h in
      few_ids from ids few (and_parts (list_all (is_edge nodes from) ids) (has_good_names n) all.0).0 all.1
  few_choices from (Node.enum name aliases symbols default) few h =
      let n = Node.enum name aliases symbols default in
      let all = and_parts (list_all (is_edge nodes from) [] && has_good_names n) (meets_its_rules nodes n) h in
      let some = nat_lt 0 (length symbols) in
      let at_most = nat_le (length symbols) max_count in
      let names = list_all is_simple_name symbols in
      let four = and_parts (some && at_most && names && are_distinct bytes_eq symbols) _ all.1 in
      let three = and_parts (some && at_most && names) (are_distinct bytes_eq symbols) four.0 in
      let two = and_parts (some && at_most) names three.0 in
      symbols_few (length symbols) (and_parts some at_most two.0).1
    where
      symbols_few : (n : ℕ) → nat_le n max_count ≡ true → n ≤ 2 ^ 31
      symbols_few n e = grind (arith, nat_tests)
  few_choices from _ few h = tt

  few_from : (from : ℕ) (ns : List Node) (k : ℕ) → length nodes ≤ 4096 → are_good_nodes nodes from ns ≡ true → HasFewChoices (unwrap_or (slice_get ns k) Node.null)
  few_from from [] k few h = tt
  few_from from (n ∷ ns) zero few h = few_choices from n few (and_parts (is_good_node nodes from n) (are_good_nodes nodes (suc from) ns) h).0
  few_from from (n ∷ ns) (suc k) few h = few_from (suc from) ns k few (and_parts (is_good_node nodes from n) (are_good_nodes nodes (suc from) ns) h).1

-- so has each node of a schema
pub HasFewChoices-from_is_schema : (nodes : List Node) → is_schema nodes ≡ true → (id : ℕ) → HasFewChoices (node_at nodes id)
HasFewChoices-from_is_schema nodes h id = few_from nodes 0 nodes id (few (length nodes) (grind arith)) (grind arith)
  where
    few : (n : ℕ) → nat_le n 4096 ≡ true → n ≤ 4096
    few n e = grind (arith, nat_tests)
