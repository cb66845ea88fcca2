-- The pairs that a pair of nodes leads to are pairs of nodes.
use Rattle.std.proofs.Common.{◌≡◌, ℕ, zero, suc, Bool, true, ◌&&◌, List, [], ◌∷◌, Option, Some, None, length, map, refl, sym, subst, arith}
use Rattle.std.proofs.lemmas.Bool.{and_from, lt-ltb, ltb-true}
use Rattle.std.specs.Prelude.{slice_get, unwrap_or, nat_lt}
use Rattle.std.specs.List.{list_all}
use Rattle.avro_schema.specs.Node.{Node, FieldNode, node_at, field_ids, edges_of, branches_of}
use Rattle.avro_schema.specs.WellFormed.{is_schema, is_edge}
use Rattle.avro_compare.specs.Match.{first_match}
use Rattle.avro_compare.specs.Source.{source_of}
use Rattle.avro_compare.specs.Children.{Pair, children_of, field_children}
use Rattle.avro_compare.proofs.public.NodeKinds.{union_of_branches, children_of_union}
use Rattle.avro_compare.proofs.public.Rules.{edges-at}
use Rattle.avro_certificate.proofs.public.Tests.{and_left, and_right}

-- numbers that are nodes
abbrev pub are_within : List Node → List ℕ → Bool
are_within nodes ps = list_all (λ p. nat_lt p (length nodes)) ps

edges_within : (nodes : List Node) (from : ℕ) (ps : List ℕ) → list_all (is_edge nodes from) ps ≡ true → are_within nodes ps ≡ true
edges_within nodes from [] h = refl
edges_within nodes from (p ∷ ps) h =
    and_from (nat_lt p (length nodes)) (are_within nodes ps) (and_left _ _ (and_left (is_edge nodes from p) (list_all (is_edge nodes from) ps) h))
    (edges_within nodes from ps (and_right (is_edge nodes from p) (list_all (is_edge nodes from) ps) h))

-- the edges of a schema's node
pub node_within : (nodes : List Node) (id : ℕ) → is_schema nodes ≡ true → are_within nodes (edges_of (node_at nodes id)) ≡ true
node_within nodes id h = edges_within nodes id (edges_of (node_at nodes id)) (edges-at nodes id h)

or_root : (nodes : List Node) (ps : List ℕ) (k : ℕ) → nat_lt 0 (length nodes) ≡ true → are_within nodes ps ≡ true → nat_lt (unwrap_or (slice_get ps k) 0) (length nodes) ≡ true
or_root nodes [] k root h = grind arith
or_root nodes (p ∷ ps) zero root h = and_left (nat_lt p (length nodes)) (are_within nodes ps) h
or_root nodes (p ∷ ps) (suc k) root h = or_root nodes ps k root (and_right (nat_lt p (length nodes)) (are_within nodes ps) h)

module _ (writer reader : List Node) where
  abbrev pub is_within : Pair → Bool
  is_within c = nat_lt c.w (length writer) && nat_lt c.r (length reader)

  pub pair_within : (w r : ℕ) → nat_lt w (length writer) ≡ true → nat_lt r (length reader) ≡ true → is_within (record { w = w; r = r }) ≡ true
  pair_within w r h k = and_from (nat_lt w (length writer)) (nat_lt r (length reader)) h k

  one_within : (w r : ℕ) → nat_lt w (length writer) ≡ true → nat_lt r (length reader) ≡ true → list_all is_within (record { w = w; r = r } ∷ []) ≡ true
  one_within w r h k = and_from (is_within (record { w = w; r = r })) true (pair_within w r h k) refl

  branches_within : (r : ℕ) (ids : List ℕ) → nat_lt r (length reader) ≡ true → are_within writer ids ≡ true → list_all is_within (map (λ id. record { w = id; r = r }) ids) ≡ true
  branches_within r [] h k = refl
  branches_within r (id ∷ ids) h k =
      and_from (is_within (record { w = id; r = r })) _ (pair_within id r (and_left (nat_lt id (length writer)) (are_within writer ids) k) h)
      (branches_within r ids h (and_right (nat_lt id (length writer)) (are_within writer ids) k))

  module _ (root : nat_lt 0 (length writer) ≡ true) (their_root : nat_lt 0 (length reader) ≡ true) where
    fields_within : (fields theirs : List FieldNode) → are_within writer (field_ids fields) ≡ true → are_within reader (field_ids theirs) ≡ true
        → list_all is_within (field_children fields theirs) ≡ true
    fields_within fields [] h k = refl
    fields_within fields (f ∷ theirs) h k =
        chosen (source_of fields f) refl (fields_within fields theirs h (and_right (nat_lt f.node (length reader)) (are_within reader (field_ids theirs)) k))
      where
        chosen : (o : Option ℕ) → source_of fields f ≡ o → list_all is_within (field_children fields theirs) ≡ true → list_all is_within (field_children fields (f ∷ theirs)) ≡ true
        chosen o e later = grind (arith, and_from, and_left, or_root)

    plain_within : (w r : ℕ) (n q : Node) → branches_of n ≡ None → branches_of q ≡ None → are_within writer (edges_of n) ≡ true → are_within reader (edges_of q) ≡ true
        → list_all is_within (children_of writer reader w r n q) ≡ true
    plain_within w r (Node.union ids) _ h k inside theirs = absurd (grind arith)
    plain_within w r _ (Node.union ids) h k inside theirs = absurd (grind arith)
    plain_within w r (Node.record_of a xs fields) (Node.record_of b ys rs) h k inside theirs = fields_within fields rs inside theirs
    plain_within w r (Node.array a) (Node.array b) h k inside theirs =
        one_within a b (and_left (nat_lt a (length writer)) true inside) (and_left (nat_lt b (length reader)) true theirs)
    plain_within w r (Node.map_of a) (Node.map_of b) h k inside theirs =
        one_within a b (and_left (nat_lt a (length writer)) true inside) (and_left (nat_lt b (length reader)) true theirs)
    plain_within w r _ _ h k inside theirs = refl

    choice_within : (w r : ℕ) (n : Node) (ids : List ℕ) → branches_of n ≡ None → nat_lt w (length writer) ≡ true → are_within reader ids ≡ true
        → (o : Option ℕ) → first_match writer reader n ids ≡ o → list_all is_within (children_of writer reader w r n (Node.union ids)) ≡ true
    choice_within w r n ids plain h k o e = grind (arith, children_of_union, or_root)

    from_roots : (w r : ℕ) (n q : Node) → nat_lt w (length writer) ≡ true → nat_lt r (length reader) ≡ true
        → are_within writer (edges_of n) ≡ true → are_within reader (edges_of q) ≡ true → list_all is_within (children_of writer reader w r n q) ≡ true
    from_roots w r n q h k inside theirs = by_writer (branches_of n) refl
      where
        by_reader : branches_of n ≡ None → (o : Option (List ℕ)) → branches_of q ≡ o → list_all is_within (children_of writer reader w r n q) ≡ true
        by_reader plain None e = plain_within w r n q plain e inside theirs
        by_reader plain (Some ids) e =
            let is : q ≡ Node.union ids = union_of_branches q ids e in
            subst (λ (m : Node). list_all is_within (children_of writer reader w r n m) ≡ true) (sym is)
            (choice_within w r n ids plain h (subst (λ (m : Node). are_within reader (edges_of m) ≡ true) is theirs) (first_match writer reader n ids) refl)

        by_writer : (o : Option (List ℕ)) → branches_of n ≡ o → list_all is_within (children_of writer reader w r n q) ≡ true
        by_writer None e = by_reader e (branches_of q) refl
        by_writer (Some ids) e =
            let is : n ≡ Node.union ids = union_of_branches n ids e in
            subst (λ (m : Node). list_all is_within (children_of writer reader w r m q) ≡ true) (sym is)
            (branches_within r ids k (subst (λ (m : Node). are_within writer (edges_of m) ≡ true) is inside))

  -- the pairs that a pair of nodes leads to are pairs of nodes
  pub children_within : (w r : ℕ) (n q : Node) → nat_lt w (length writer) ≡ true → nat_lt r (length reader) ≡ true
      → are_within writer (edges_of n) ≡ true → are_within reader (edges_of q) ≡ true → list_all is_within (children_of writer reader w r n q) ≡ true
  children_within w r n q here there = from_roots (root w (length writer) here) (root r (length reader) there) w r n q here there
    where
      root : (p n : ℕ) → nat_lt p n ≡ true → nat_lt 0 n ≡ true
      root p n below = lt-ltb 0 n (omega (arith, ltb-true p n below))
