-- The nodes that pairs lead to, and what is made there.
use Rattle.std.proofs.Common.{◌≡◌, ◌∙◌, ℕ, zero, suc, ◌<◌, Bool, true, false, cond, List, [], ◌∷◌, Option, Some, None, Result, Ok, Err, length, refl, sym, ap, subst, arith}
use Rattle.std.specs.Prelude.{IfOk, slice_get, unwrap_or}
use Rattle.std.specs.Global.{Box}
use Rattle.std.specs.declared.alloc.AllocError.{AllocError}
use Rattle.std.proofs.lemmas.Bool.{false≢true}
use Rattle.std.proofs.lemmas.Result.{IfOk-at_ok}
use Rattle.avro_name.specs.Name.{Name}
use Rattle.avro_schema.specs.Value.{Value}
use Rattle.avro_schema.specs.Node.{Node, FieldNode, node_at}
use Rattle.avro_schema.specs.Fits.{fits, is_some_and}
use Rattle.avro_schema.specs.WellFormed.{is_schema, meets_its_rules}
use Rattle.avro_schema.specs.declared.schema.NodeId.{NodeId}
use Rattle.avro_binary.specs.LeafValue.{leaf_value}
use Rattle.avro_binary.specs.Places.{alone, branch_place, in_branch, is_union, placed}
use Rattle.avro_binary.specs.declared.place.Place.{Place}
use Rattle.avro_binary.specs.declared.leaf.Leaf.{Leaf}
use Rattle.avro_compare.specs.Fault.{ResolutionFault, fault_here, no_match}
use Rattle.avro_compare.specs.Match.{Matches, arrays, maps, records, is_match, first_match}
use Rattle.avro_compare.specs.Pairs.{IsTarget, target_at, target_of, branch_target, item_id, value_id, wrapped}
use Rattle.avro_compare.specs.Resolve.{Resolved, branch_node, fields_at, into_branch, resolve, result_map, through}
use Rattle.avro_compare.specs.Seen.{cause_of}
use Rattle.avro_compare.specs.declared.comparison.Target.TheVariants.{Fault, To}
use Rattle.avro_compare.specs.declared.comparison.At.{At}
use Rattle.avro_compare.specs.declared.comparison.At.TheVariants.{Pair}
use Rattle.avro_compare.specs.declared.error.FaultKind.{FaultKind}
use Rattle.avro_compare.specs.declared.error.FaultKind.TheVariants.{NoMatch}
use Rattle.avro_compare.specs.declared.error.Fault.{Fault as KeptFault}
use Rattle.avro_compare.proofs.public.Leading.{first_match_matches}
use Rattle.avro_compare.proofs.public.MatchTest.{match_within-sound}
use Rattle.avro_compare.proofs.public.Rules.{MeetRules-from_is_schema}
use Rattle.avro_resolve.specs.Ends.{turned}
use Rattle.avro_resolve.specs.inside.Guided.{Arrives, ArrivesAt, LeadsTo, MadeAs, StandsAs, leaf_as, of_node}
use Rattle.avro_resolve.specs.declared.resolving.guided.Made.{Made}
use Rattle.avro_resolve.proofs.AtMatch.{FitsAt, IsPlain}
use Rattle.avro_resolve.proofs.Branches.{first_match-within, plain-branch}
use Rattle.avro_resolve.proofs.Guiding.{as_fault, wrapped_fault}
use Rattle.avro_resolve.proofs.Resolved.{resolve-fits}

-- ---- Where a pair arrives

pub no_union : (n : Node) → IsPlain n → is_union n ≡ false
no_union (Node.union ids) h = absurd (false≢true h)
no_union _ h = refl

got_at : (ids : List ℕ) (k : ℕ) → k < length ids → slice_get ids k ≡ Some (unwrap_or (slice_get ids k) 0)
got_at [] k low = absurd (omega (arith, low))
got_at (i ∷ ids) zero low = refl
got_at (i ∷ ids) (suc k) low = got_at ids k (omega (arith, low))

target_arrives : (writer reader : List Node) → is_schema reader ≡ true → (w : Node) (r : NodeId) (n : Node) → node_at reader r.0 ≡ n → ArrivesAt writer reader w r.0 (target_of writer reader w r n)
target_arrives writer reader formed w r (Node.union ids) here = chosen (first_match writer reader w ids) refl
  where
    rules : meets_its_rules reader (Node.union ids) ≡ true
    rules = subst (λ (m : Node). meets_its_rules reader m ≡ true) here (MeetRules-from_is_schema reader formed r.0)

    chosen : (o : Option ℕ) → first_match writer reader w ids ≡ o → ArrivesAt writer reader w r.0 (branch_target ids o)
    chosen None e = tt
    chosen (Some k) e =
        let low : k < length ids = omega (arith, first_match-within 0 writer reader w ids k e) in
        let plain = plain-branch reader ids k rules low in
        record {
          into = (ids, here, got_at ids k low, no_union (branch_node reader ids k) plain);
          matches = first_match_matches writer reader w ids k e;
          plain = plain;
        }
target_arrives writer reader formed w r n here = chosen (is_match writer reader w n) refl refl
  where
    chosen : (t : Bool) → is_match writer reader w n ≡ t → IsPlain n → ArrivesAt writer reader w r.0 (cond t (To None r) (Fault NoMatch))
    chosen true e plain = record {
      into = refl;
      matches = subst (λ (m : Node). is_match writer reader w m ≡ true) (sym here) e;
      plain = subst (λ (m : Node). IsPlain m) (sym here) plain;
    }
    chosen false e plain = tt

-- of the nodes of two ids
pub pair_arrives : (writer reader : List Node) → is_schema reader ≡ true → (w r : NodeId) → ArrivesAt writer reader (node_at writer w.0) r.0 (target_at writer reader w r)
pair_arrives writer reader formed w r = target_arrives writer reader formed (node_at writer w.0) r (node_at reader r.0) refl

-- what resolution to null shows of a pair
abbrev for_null : Node → Resolved
for_null n = Ok Value.null

own_at : (writer reader : List Node) (w n : Node) → through writer reader w n for_null ≡ Ok Value.null → (is_match writer reader w n ≡ true) × IsPlain n
own_at writer reader w (Node.union ids) h = absurd (chosen (first_match writer reader w ids) h)
  where
    matched_null : (k : ℕ) (t : Bool) → result_map (Value.union k) (cond t (Ok Value.null) (Err (fault_here no_match))) ≡ Ok Value.null → ⊥
    matched_null k true e = cc
    matched_null k false e = cc

    chosen : (o : Option ℕ) → into_branch writer reader w ids o for_null ≡ Ok Value.null → ⊥
    chosen None e = cc
    chosen (Some k) e = matched_null k (is_match writer reader w (branch_node reader ids k)) e
own_at writer reader w n h = (chosen (is_match writer reader w n) refl h, refl)
  where
    chosen : (t : Bool) → is_match writer reader w n ≡ t → cond t (Ok Value.null) (Err (fault_here no_match)) ≡ Ok Value.null → is_match writer reader w n ≡ true
    chosen true m e = m
    chosen false m e = absurd cc

-- of a pair that leads to the reader's node itself
pub own_arrives : (writer reader : List Node) (w : Node) (r : NodeId) → IsTarget writer reader w (node_at reader r.0) (To None r) → Arrives writer reader w r.0 None r.0
own_arrives writer reader w r leads =
    let got = own_at writer reader w (node_at reader r.0) (leads for_null) in
    record { into = refl; matches = got.0; plain = got.1 }

-- ---- The kind of the node there

array_to : (writer reader : List Node) {w q : Node} → Matches writer reader w q → IsPlain q → (id : ℕ) → Node.array id ≡ w → q ≡ Node.array (item_id q)
array_to writer reader (arrays m) plain id e = refl
array_to writer reader _ plain id e = absurd cc

map_to : (writer reader : List Node) {w q : Node} → Matches writer reader w q → IsPlain q → (id : ℕ) → Node.map_of id ≡ w → q ≡ Node.map_of (value_id q)
map_to writer reader (maps m) plain id e = refl
map_to writer reader _ plain id e = absurd cc

abbrev pub IsRecord : Node → Type 0
IsRecord q = (name : Name) × (aliases : List Name) × (q ≡ Node.record_of name aliases (fields_at q))

record_to : (writer reader : List Node) {w q : Node} → Matches writer reader w q → IsPlain q → (name : Name) (aliases : List Name) (fs : List FieldNode) → Node.record_of name aliases fs ≡ w → IsRecord q
record_to writer reader (records {b = b} {b_aliases = others} alike) plain name aliases fs e = (b, others, refl)
record_to writer reader _ plain name aliases fs e = absurd cc

module _ (writer reader : List Node) (w : Node) (r : ℕ) (branch : Option ℕ) (to : ℕ) (arrives : Arrives writer reader w r branch to) where
  kinds_match : Matches writer reader w (node_at reader to)
  kinds_match = match_within-sound (length writer) writer reader w (node_at reader to) arrives.matches

  pub arrived_array : (id : ℕ) (b : NodeId) → Node.array id ≡ w → b.0 ≡ item_id (node_at reader to) → node_at reader to ≡ Node.array b.0
  arrived_array id b is of_reader = array_to writer reader kinds_match arrives.plain id is ∙ ap (λ (i : ℕ). Node.array i) (sym of_reader)

  pub arrived_map : (id : ℕ) (b : NodeId) → Node.map_of id ≡ w → b.0 ≡ value_id (node_at reader to) → node_at reader to ≡ Node.map_of b.0
  arrived_map id b is of_reader = map_to writer reader kinds_match arrives.plain id is ∙ ap (λ (i : ℕ). Node.map_of i) (sym of_reader)

  pub arrived_record : (name : Name) (aliases : List Name) (fs : List FieldNode) → Node.record_of name aliases fs ≡ w → IsRecord (node_at reader to)
  arrived_record name aliases fs is = record_to writer reader kinds_match arrives.plain name aliases fs is

-- ---- What fits there

pub wrapped_ok : (branch : Option ℕ) (v : Value) → wrapped branch (Ok v) ≡ Ok (in_branch branch v)
wrapped_ok None v = refl
wrapped_ok (Some k) v = refl

-- of what fits the whole node, the value of its branch fits the branch's
pub fits_within : (nodes : List Node) (r : ℕ) (branch : Option ℕ) (q : ℕ) (v : Value) → LeadsTo nodes r branch q → fits nodes (node_at nodes r) (in_branch branch v) ≡ true → fits nodes (node_at nodes q) v ≡ true
fits_within nodes r None q v to h = subst (λ (i : ℕ). fits nodes (node_at nodes i) v ≡ true) to h
fits_within nodes r (Some k) q v to h =
    subst (λ (o : Option ℕ). is_some_and (λ id. fits nodes (node_at nodes id) v) o ≡ true) to.2
    (subst (λ (m : Node). fits nodes m (Value.union k v) ≡ true) to.1 h)

-- of what a datum is resolved to
pub fits_there : (writer reader : List Node) → is_schema reader ≡ true → (w : Node) (r : ℕ) (branch : Option ℕ) (q : ℕ) (v u : Value) → FitsAt writer w v
    → resolve writer reader w (node_at reader r) v ≡ wrapped branch (Ok u) → LeadsTo reader r branch q → fits reader (node_at reader q) u ≡ true
fits_there writer reader formed w r branch q v u fit e to =
    let rules = MeetRules-from_is_schema reader formed in
    fits_within reader r branch q u to
    (IfOk-at_ok (FitsAt reader (node_at reader r)) (e ∙ wrapped_ok branch u) (resolve-fits writer reader rules w (node_at reader r) v (rules r) fit))

-- ---- What is made there

-- of a union that has the branch
pub branch_led : {O : Type 0} (S SN : List Node → Node → Place → O → Value → Type 0) (nodes : List Node) (r q : ℕ) (branch : Option ℕ) (k : ℕ) (v : Value) (out outer : O) → branch ≡ Some k → LeadsTo nodes r branch q
    → S nodes (node_at nodes q) (placed branch q) out v
    → ((ids : List ℕ) → slice_get ids k ≡ Some q → is_union (node_at nodes q) ≡ false → S nodes (node_at nodes q) (branch_place k q) out v → SN nodes (Node.union ids) (alone r) outer (Value.union k v))
    → MadeAs (of_node SN nodes r) (Made.Good outer) (Ok (in_branch branch v))
branch_led S SN nodes r q None k v out outer e to h law = absurd cc
branch_led S SN nodes r q (Some j) k v out outer e to h law =
    let same : j ≡ k = cc in
    subst (λ (i : ℕ). SN nodes (node_at nodes r) (alone r) outer (Value.union i v)) (sym same)
    (subst (λ (m : Node). SN nodes m (alone r) outer (Value.union k v)) (sym to.1)
    (law to.0 (subst (λ (i : ℕ). slice_get to.0 i ≡ Some q) same to.2) to.3 (subst (λ (i : ℕ). S nodes (node_at nodes q) (placed (Some i) q) out v) same h)))

-- of the node itself
pub own_led : {O : Type 0} (S : List Node → Node → Place → O → Value → Type 0) (nodes : List Node) (r q : ℕ) (branch : Option ℕ) (v : Value) (out : O) → branch ≡ None → LeadsTo nodes r branch q
    → S nodes (node_at nodes q) (placed branch q) out v → MadeAs (of_node S nodes r) (Made.Good out) (Ok (in_branch branch v))
own_led S nodes r q None v out e to h = subst (λ (i : ℕ). S nodes (node_at nodes i) (alone i) out v) (sym to) h
own_led S nodes r q (Some j) v out e to h = absurd cc

-- ---- Leaves

pub leaf_goes : (writer reader : List Node) (w r : Node) (leaf : Leaf) → resolve writer reader w r (leaf_value leaf) ≡ through writer reader w r (leaf_as w (leaf_value leaf))
leaf_goes writer reader w r Leaf.Null = refl
leaf_goes writer reader w r (Leaf.Boolean value) = refl
leaf_goes writer reader w r (Leaf.Int value) = refl
leaf_goes writer reader w r (Leaf.Long value) = refl
leaf_goes writer reader w r (Leaf.Bytes content) = refl
leaf_goes writer reader w r (Leaf.Text text) = refl
leaf_goes writer reader w r (Leaf.Fixed content) = refl
leaf_goes writer reader w r (Leaf.Symbol index) = refl

module _ {O : Type 0} (S : List Node → Node → Place → O → Value → Type 0) (writer reader nodes : List Node) (n : Node) (at : At) (w r : NodeId) (leaf : Leaf) (pair : at ≡ Pair w r) where
  -- a leaf that is made where its pair leads
  pub leaf_into : (branch : Option ℕ) (q : NodeId) (u : Value) (result : Result (Made O) AllocError) → is_schema reader ≡ true → fits nodes n (leaf_value leaf) ≡ true
      → IsTarget writer reader (node_at writer w.0) (node_at reader r.0) (To branch q) → LeadsTo reader r.0 branch q.0 → leaf_as (node_at writer w.0) (leaf_value leaf) (node_at reader q.0) ≡ Ok u
      → (fits reader (node_at reader q.0) u ≡ true → IfOk result (λ made. MadeAs (of_node S reader r.0) made (Ok (in_branch branch u))))
      → IfOk result (λ made. StandsAs S writer reader nodes n at made (leaf_value leaf))
  leaf_into branch q u (Err e) formed fit leads to is law = tt
  leaf_into branch q u (Ok made) formed fit leads to is law =
      subst (λ (x : At). StandsAs S writer reader nodes n x made (leaf_value leaf)) (sym pair)
      (λ are same.
      let v = leaf_value leaf in
      let wn = node_at writer w.0 in
      let e : resolve writer reader wn (node_at reader r.0) v ≡ wrapped branch (Ok u) = leaf_goes writer reader wn (node_at reader r.0) leaf ∙ leads (leaf_as wn v) ∙ ap (wrapped branch) is in
      let fit_here = subst (λ (m : Node). fits writer m v ≡ true) same (subst (λ (ns : List Node). fits ns n v ≡ true) are fit) in
      subst (MadeAs (of_node S reader r.0) made) (sym (e ∙ wrapped_ok branch u)) (law (fits_there writer reader formed wn r.0 branch q.0 v u fit_here e to)))

  -- a leaf that the reader's node does not take
  pub leaf_bad : (branch : Option ℕ) (q : NodeId) (fault : Box KeptFault) (g : ResolutionFault) → IsTarget writer reader (node_at writer w.0) (node_at reader r.0) (To branch q)
      → leaf_as (node_at writer w.0) (leaf_value leaf) (node_at reader q.0) ≡ Err g → turned fault.value ≡ g → StandsAs S writer reader nodes n at (Made.Faulty fault) (leaf_value leaf)
  leaf_bad branch q fault g leads is same =
      subst (λ (x : At). StandsAs S writer reader nodes n x (Made.Faulty fault) (leaf_value leaf)) (sym pair)
      (λ are there. leaf_goes writer reader (node_at writer w.0) (node_at reader r.0) leaf ∙ leads (leaf_as (node_at writer w.0) (leaf_value leaf)) ∙ ap (wrapped branch) is ∙ wrapped_fault branch g ∙ ap as_fault (sym same))

  -- a leaf whose pair leads nowhere
  pub leaf_lost : (kind : FaultKind) (fault : Box KeptFault) → IsTarget writer reader (node_at writer w.0) (node_at reader r.0) (Fault kind)
      → turned fault.value ≡ fault_here (cause_of kind) → StandsAs S writer reader nodes n at (Made.Faulty fault) (leaf_value leaf)
  leaf_lost kind fault leads same =
      subst (λ (x : At). StandsAs S writer reader nodes n x (Made.Faulty fault) (leaf_value leaf)) (sym pair)
      (λ are there. leaf_goes writer reader (node_at writer w.0) (node_at reader r.0) leaf ∙ leads (leaf_as (node_at writer w.0) (leaf_value leaf)) ∙ ap as_fault (sym same))
