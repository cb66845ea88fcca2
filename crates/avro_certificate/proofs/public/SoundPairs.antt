-- What a closed set says of a pair whose writer's node has a datum.
use Rattle.std.proofs.Common.{◌≡◌, ℕ, Bool, true, false, not, ◌&&◌, ◌||◌, List, [], ◌∷◌, Option, Some, None, length, refl, sym, ◌∙◌, subst, cond, arith}
use Rattle.std.proofs.lemmas.Bool.{true≢false, eqb-true}
use Rattle.std.specs.Prelude.{is_none, slice_get, unwrap_or, nat_lt, ◌==◌}
use Rattle.std.specs.List.{list_all}
use Rattle.avro_schema.specs.Value.{Value}
use Rattle.avro_schema.specs.Node.{Node, FieldNode, node_at, branches_of, field_ids}
use Rattle.avro_schema.specs.Fits.{fits}
use Rattle.avro_schema.specs.WellFormed.{is_schema}
use Rattle.avro_compare.specs.Match.{is_match, first_match}
use Rattle.avro_compare.specs.Source.{source_of, reader_field}
use Rattle.avro_compare.specs.Resolve.{Resolved, matched, through, branch_node}
use Rattle.avro_compare.specs.Children.{Pair, has_fault_of_kind, has_local_fault, children_of, field_children}
use Rattle.avro_certificate.specs.Closed.{is_among, is_among_pairs, is_dead, is_closed_at}
use Rattle.avro_certificate.proofs.public.Tests.{and_left, and_right, or_left, or_right, or_not, not_true, not_false, all_among_pairs}
use Rattle.avro_compare.proofs.public.NodeKinds.{fault_of_union, fault_of_others, children_of_union, union_of_branches}
use Rattle.avro_certificate.proofs.public.DeadNodes.{no_dead_datum}
use Rattle.avro_certificate.proofs.public.Shapes.{plain_branch, first_match_within}
use Rattle.avro_certificate.proofs.public.Successes.{Succeeds, succeeds_map, succeeds_matched, through_plain, matched_plain}

-- the sets account for a pair: its writer's node is dead, or the pair is there
abbrev pub stands : List ℕ → List Pair → Pair → Bool
stands dead pairs p = is_among dead p.w || is_among_pairs pairs p

-- a pair without a fault of its own, all of whose children the sets account for
pub record IsSound (writer reader : List Node) (dead : List ℕ) (pairs : List Pair) (w r : ℕ) (n q : Node) : Type 0 where
  pub faultless : has_local_fault writer reader n q ≡ false
  pub children : list_all (stands dead pairs) (children_of writer reader w r n q) ≡ true

-- a plain node of the reader's that takes what a writer's plain node has
pub record Reaches (writer reader : List Node) (dead : List ℕ) (pairs : List Pair) (w : ℕ) (n q : Node) : Type 0 where
  pub id : ℕ
  pub plain : branches_of (node_at reader id) ≡ None
  pub matches : is_match writer reader n (node_at reader id) ≡ true
  pub faultless : has_fault_of_kind n (node_at reader id) ≡ false
  pub children : list_all (stands dead pairs) (children_of writer reader w id n (node_at reader id)) ≡ true
  pub gives : (f : Node → Resolved) → Succeeds (f (node_at reader id)) → Succeeds (through writer reader n q f)

-- the first of some fields takes its source, or a later one does
first_child : (test : Pair → Bool) (ids : List ℕ) (source index : ℕ) (g f : FieldNode) (rest : Option FieldNode)
    → cond (source == index) (Some g) rest ≡ Some f → test (record { w = unwrap_or (slice_get ids source) 0; r = g.node }) ≡ true
    → (rest ≡ Some f → test (record { w = unwrap_or (slice_get ids index) 0; r = f.node }) ≡ true)
    → test (record { w = unwrap_or (slice_get ids index) 0; r = f.node }) ≡ true
first_child test ids source index g f rest found passes later = grind (arith, eqb-true)

-- the child of a reader's field whose source is at an index
pub source_child : (test : Pair → Bool) (fields theirs : List FieldNode) (index : ℕ) (f : FieldNode) → reader_field fields theirs index ≡ Some f
    → list_all test (field_children fields theirs) ≡ true → test (record { w = unwrap_or (slice_get (field_ids fields) index) 0; r = f.node }) ≡ true
source_child test fields [] index f here all = absurd (grind arith)
source_child test fields (g ∷ gs) index f here all = step (source_of fields g) refl (source_child test fields gs index f)
  where
    step : (o : Option ℕ) → source_of fields g ≡ o
        → (reader_field fields gs index ≡ Some f → list_all test (field_children fields gs) ≡ true
        → test (record { w = unwrap_or (slice_get (field_ids fields) index) 0; r = f.node }) ≡ true)
        → test (record { w = unwrap_or (slice_get (field_ids fields) index) 0; r = f.node }) ≡ true
    step o e later = grind (arith, and_left, and_right, first_child)

module _ (writer reader : List Node) (dead : List ℕ) (pairs : List Pair) (dead_set : is_dead writer dead ≡ true)
    (closed : list_all (is_closed_at writer reader dead pairs) pairs ≡ true) where
  -- a pair of the sets is sound where a datum fits its writer's node
  pub sound : (v : Value) (w r : ℕ) → stands dead pairs (record { w = w; r = r }) ≡ true → fits writer (node_at writer w) v ≡ true
      → IsSound writer reader dead pairs w r (node_at writer w) (node_at reader r)
  sound v w r s h = record { faultless = not_true _ (and_left _ _ open_pair); children = and_right _ _ open_pair }
    where
      live : is_among dead w ≡ true → ⊥
      live d = no_dead_datum writer dead dead_set v w d h

      open_pair : (not (has_local_fault writer reader (node_at writer w) (node_at reader r))
          && list_all (stands dead pairs) (children_of writer reader w r (node_at writer w) (node_at reader r))) ≡ true
      open_pair = or_not (is_among dead w) _ (and_right (nat_lt w (length writer) && nat_lt r (length reader)) _
          (all_among_pairs (is_closed_at writer reader dead pairs) pairs (record { w = w; r = r }) closed
          (or_not (is_among dead w) (is_among_pairs pairs (record { w = w; r = r })) s live))) live

  -- where neither node is a union
  reach_plain : (w r : ℕ) (n : Node) → branches_of n ≡ None → branches_of (node_at reader r) ≡ None
      → IsSound writer reader dead pairs w r n (node_at reader r) → Reaches writer reader dead pairs w n (node_at reader r)
  reach_plain w r n plain their_plain is_sound = record {
    id = r;
    plain = their_plain;
    matches = their_match;
    faultless = or_right _ _ no_fault;
    children = is_sound.children;
    gives = λ f s. through_plain writer reader n (node_at reader r) f their_plain (succeeds_matched writer reader n (node_at reader r) f their_match s);
  }
    where
      no_fault : (not (is_match writer reader n (node_at reader r)) || has_fault_of_kind n (node_at reader r)) ≡ false
      no_fault = sym (fault_of_others writer reader n (node_at reader r) plain their_plain) ∙ is_sound.faultless

      their_match : is_match writer reader n (node_at reader r) ≡ true
      their_match = not_false _ (or_left _ _ no_fault)

  -- where the reader's node is a union
  reach_branch : is_schema reader ≡ true → (v : Value) (w r : ℕ) (ids : List ℕ) → node_at reader r ≡ Node.union ids
      → fits writer (node_at writer w) v ≡ true → branches_of (node_at writer w) ≡ None
      → IsSound writer reader dead pairs w r (node_at writer w) (Node.union ids)
      → Reaches writer reader dead pairs w (node_at writer w) (Node.union ids)
  reach_branch formed v w r ids here h plain is_sound = chosen (first_match writer reader (node_at writer w) ids) refl
      (sym (fault_of_union writer reader (node_at writer w) ids plain) ∙ is_sound.faultless)
    where
      their_plain : (k : ℕ) → first_match writer reader (node_at writer w) ids ≡ Some k
          → branches_of (node_at reader (unwrap_or (slice_get ids k) 0)) ≡ None
      their_plain k taken = grind (arith, first_match_within, plain_branch)

      child : (k : ℕ) → first_match writer reader (node_at writer w) ids ≡ Some k
          → stands dead pairs (record { w = w; r = unwrap_or (slice_get ids k) 0 }) ≡ true
      child k taken = grind (arith, and_left, children_of_union)

      within : (k : ℕ) → first_match writer reader (node_at writer w) ids ≡ Some k
          → Reaches writer reader dead pairs w (node_at writer w) (node_at reader (unwrap_or (slice_get ids k) 0))
      within k taken = reach_plain w (unwrap_or (slice_get ids k) 0) (node_at writer w) plain (their_plain k taken)
          (sound v w (unwrap_or (slice_get ids k) 0) (child k taken) h)

      chosen : (o : Option ℕ) → first_match writer reader (node_at writer w) ids ≡ o → is_none o ≡ false
          → Reaches writer reader dead pairs w (node_at writer w) (Node.union ids)
      chosen None taken some = absurd (true≢false some)
      chosen (Some k) taken some =
          let way = within k taken in
          record {
            id = way.id;
            plain = way.plain;
            matches = way.matches;
            faultless = way.faultless;
            children = way.children;
            gives = λ f s. rw taken (succeeds_map (Value.union k) (matched writer reader (node_at writer w) (branch_node reader ids k) f)
                (matched_plain writer reader (node_at writer w) (branch_node reader ids k) f (their_plain k taken) (way.gives f s)));
          }

  -- whatever the reader's node is
  pub reach : is_schema reader ≡ true → (v : Value) (w r : ℕ) → stands dead pairs (record { w = w; r = r }) ≡ true
      → fits writer (node_at writer w) v ≡ true → branches_of (node_at writer w) ≡ None
      → Reaches writer reader dead pairs w (node_at writer w) (node_at reader r)
  reach formed v w r s h plain = by_branches (branches_of (node_at reader r)) refl
    where
      is_sound : IsSound writer reader dead pairs w r (node_at writer w) (node_at reader r)
      is_sound = sound v w r s h

      by_branches : (o : Option (List ℕ)) → branches_of (node_at reader r) ≡ o → Reaches writer reader dead pairs w (node_at writer w) (node_at reader r)
      by_branches None e = reach_plain w r (node_at writer w) plain e is_sound
      by_branches (Some ids) e =
          let here : node_at reader r ≡ Node.union ids = union_of_branches (node_at reader r) ids e in
          subst (λ (q : Node). Reaches writer reader dead pairs w (node_at writer w) q) (sym here)
          (reach_branch formed v w r ids here h plain
          (subst (λ (q : Node). IsSound writer reader dead pairs w r (node_at writer w) q) here is_sound))
