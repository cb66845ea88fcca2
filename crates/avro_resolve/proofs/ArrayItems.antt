-- Items of an array that are resolved as they are read.
use Rattle.std.proofs.Common.{◌≡◌, ℕ, zero, suc, ◌+◌, ◌<◌, List, [], ◌∷◌, ◌++◌, length, replicate, length-append, Option, Result, Ok, Err, refl, sym, ap, ◌∙◌, subst, arith}
use Rattle.std.specs.Prelude.{IfOk}
use Rattle.std.specs.Global.{Box}
use Rattle.std.specs.declared.alloc.AllocError.{AllocError}
use Rattle.std.proofs.lemmas.List.{append-nil, append_assoc, length-replicate}
use Rattle.avro_schema.specs.Value.{Value, Values, no_values, value}
use Rattle.avro_schema.specs.Node.{Node, node_at, items_node}
use Rattle.avro_schema.specs.Seen.{values_from}
use Rattle.avro_schema.specs.declared.schema.NodeId.{NodeId}
use Rattle.avro_resolve.specs.Ends.{turned, values_before}
use Rattle.avro_compare.specs.Fault.{ResolutionFault, fault_in}
use Rattle.avro_resolve.specs.inside.Guided.{Arrives, Leads, MadeAs, StandsAs, SoFar, ItemsGood, ItemsStandAs, LeadsTo, of_node}
use Rattle.avro_binary.specs.Places.{in_branch, placed}
use Rattle.avro_binary.specs.declared.place.Place.{Place}
use Rattle.avro_compare.specs.Pairs.{wrapped, item_id}
use Rattle.avro_compare.specs.Resolve.{Resolved, resolve, resolve_items, both, inside, result_map, part_at}
use Rattle.avro_compare.specs.declared.error.Fault.{Fault}
use Rattle.avro_compare.specs.declared.comparison.At.{At}
use Rattle.avro_compare.specs.declared.comparison.At.TheVariants.{Ignored, Pair}
use Rattle.avro_resolve.specs.declared.resolving.guided.Made.{Made}
use Rattle.avro_resolve.specs.declared.resolving.guided.Run.{Run}
use Rattle.avro_compare.proofs.public.Lists.{one_longer}
use Rattle.avro_resolve.proofs.Arriving.{arrived_array, wrapped_ok}
use Rattle.avro_resolve.proofs.Guiding.{as_fault, good_made, wrapped_fault, so_far_none, so_far_more, so_far_fails, so_far_whole}

values_before-none : (us : List Value) → values_before us no_values ≡ values_from us
values_before-none [] = refl
values_before-none (u ∷ us) = ap (value u) (values_before-none us)

values_before-more : (us : List Value) (u : Value) (vs : Values) → values_before us (value u vs) ≡ values_before (us ++ u ∷ []) vs
values_before-more [] u vs = refl
values_before-more (x ∷ us) u vs = ap (value x) (values_before-more us u vs)

-- one more is counted, and so many more
counted_up : (vs : List Value) (v : Value) (count next : ℕ) → count ≡ length vs → next ≡ count + 1 → next ≡ length (vs ++ v ∷ [])
counted_up vs v count next counted up = omega (arith, counted, up, one_longer vs v)

counted_more : (vs more : List Value) (count next n : ℕ) → length more ≡ n → count ≡ length vs → next ≡ count + n → next ≡ length (vs ++ more)
counted_more vs more count next n long counted up = omega (arith, long, counted, up, length-append vs more)

-- ---- Steps

module _ (writer reader : List Node) (w r : Node) (k : ℕ) (v : Value) (more : List Value) where
  item_good : (made : List Value) (u : Value) → resolve writer reader w r v ≡ Ok u
      → result_map (values_before made) (resolve_items writer reader w r k (values_from (v ∷ more))) ≡ result_map (values_before (made ++ u ∷ [])) (resolve_items writer reader w r (suc k) (values_from more))
  item_good made u e =
      ap (λ (q : Resolved). result_map (values_before made) (both value (inside k q) (resolve_items writer reader w r (suc k) (values_from more)))) e ∙ moved (resolve_items writer reader w r (suc k) (values_from more))
    where
      moved : (rest : Result Values ResolutionFault) → result_map (values_before made) (both value (inside k (Ok u)) rest) ≡ result_map (values_before (made ++ u ∷ [])) rest
      moved (Ok vs) = ap (λ (zs : Values). Ok zs) (values_before-more made u vs)
      moved (Err f) = refl

  item_bad : (f : ResolutionFault) → resolve writer reader w r v ≡ Err f → resolve_items writer reader w r k (values_from (v ∷ more)) ≡ Err (fault_in k f)
  item_bad f e = ap (λ (q : Resolved). both value (inside k q) (resolve_items writer reader w r (suc k) (values_from more))) e

module _ {I : Type 0} (S : List Node → ℕ → Place → I → List Value → Type 0) (writer reader : List Node) (w : Node) (r : ℕ) (kept : I) (count : ℕ) (branch : Option ℕ) (a b : NodeId) (vs : List Value) (good : ItemsGood S writer reader w r kept count branch a b vs) where
  -- the nodes of the items
  abbrev items_run : ℕ → List Value → Result Values ResolutionFault
  items_run k us = resolve_items writer reader (node_at writer a.0) (node_at reader b.0) k (values_from us)

  array_leads : (xs : List Value) → resolve writer reader w (node_at reader r) (Value.array (values_from xs)) ≡ wrapped branch (result_map Value.array (items_run 0 xs))
  array_leads xs =
      good.leads (λ q. result_map Value.array (resolve_items writer reader (part_at writer (items_node w)) (part_at reader (items_node q)) 0 (values_from xs)))
      ∙ ap (λ (i : ℕ). wrapped branch (result_map Value.array (resolve_items writer reader (node_at writer i) (node_at reader (item_id (node_at reader good.to))) 0 (values_from xs)))) (sym good.of_writer)
      ∙ ap (λ (i : ℕ). wrapped branch (result_map Value.array (resolve_items writer reader (node_at writer a.0) (node_at reader i) 0 (values_from xs)))) (sym good.of_reader)

  node_there : (nodes : List Node) (id : ℕ) → nodes ≡ writer → Node.array id ≡ w → node_at nodes id ≡ node_at writer a.0
  node_there nodes id are is =
      let same : id ≡ a.0 = ap item_id is ∙ sym good.of_writer in
      ap (λ (ns : List Node). node_at ns id) are ∙ ap (node_at writer) same

  array_whole : resolve writer reader w (node_at reader r) (Value.array (values_from vs)) ≡ wrapped branch (Ok (Value.array (values_from good.made)))
  array_whole =
      array_leads vs ∙ ap (λ (x : Result Values ResolutionFault). wrapped branch (result_map Value.array x)) (so_far_whole items_run values_before vs good.made good.so_far)
      ∙ ap (λ (us : Values). wrapped branch (Ok (Value.array us))) (values_before-none good.made)

  array_fails : (v : Value) (f : ResolutionFault) → resolve writer reader (node_at writer a.0) (node_at reader b.0) v ≡ Err f
      → (more : List Value) → resolve writer reader w (node_at reader r) (Value.array (values_from ((vs ++ v ∷ []) ++ more))) ≡ Err (fault_in count f)
  array_fails v f e more =
      array_leads ((vs ++ v ∷ []) ++ more)
      ∙ ap (λ (x : Result Values ResolutionFault). wrapped branch (result_map Value.array x))
      (so_far_fails items_run values_before vs v good.made (fault_in (length vs) f) good.so_far (λ rest. item_bad writer reader (node_at writer a.0) (node_at reader b.0) (length vs) v rest f e) more)
      ∙ wrapped_fault branch (fault_in (length vs) f) ∙ ap (λ (k : ℕ). as_fault (fault_in k f)) (sym good.counted)

-- so many that are the same
module _ (writer reader : List Node) (w r : Node) (v u : Value) (is : resolve writer reader w r v ≡ Ok u) where
  abbrev same_run : ℕ → List Value → Result Values ResolutionFault
  same_run k us = resolve_items writer reader w r k (values_from us)

  pub so_far_again : (n : ℕ) (vs made : List Value) → SoFar same_run values_before vs made → SoFar same_run values_before (vs ++ replicate n v) (made ++ replicate n u)
  so_far_again zero vs made h =
      subst (λ (xs : List Value). SoFar same_run values_before xs (made ++ [])) (sym (append-nil vs)) (subst (λ (us : List Value). SoFar same_run values_before vs us) (sym (append-nil made)) h)
  so_far_again (suc n) vs made h =
      let more = so_far_again n (vs ++ v ∷ []) (made ++ u ∷ []) (so_far_more same_run values_before vs v made (made ++ u ∷ []) h (λ rest. item_good writer reader w r (length vs) v rest made u is)) in
      subst (λ (xs : List Value). SoFar same_run values_before xs (made ++ replicate (suc n) u)) (append_assoc vs (v ∷ []) (replicate n v))
      (subst (λ (us : List Value). SoFar same_run values_before ((vs ++ v ∷ []) ++ replicate n v) us) (append_assoc made (u ∷ []) (replicate n u)) more)

-- none yet, where a pair leads to a node
pub no_items : {I : Type 0} (S : List Node → ℕ → Place → I → List Value → Type 0) (writer reader nodes : List Node) (id : ℕ) (at : At) (w r : NodeId) (kept : I) (branch : Option ℕ) (q a b : NodeId)
    → at ≡ Pair w r → a.0 ≡ item_id (node_at writer w.0) → b.0 ≡ item_id (node_at reader q.0) → S reader b.0 (placed branch q.0) kept []
    → Leads writer reader (node_at writer w.0) (node_at reader r.0) branch q.0 → Arrives writer reader (node_at writer w.0) r.0 branch q.0
    → ItemsStandAs S writer reader nodes id at (Run.Good kept 0 branch a b) []
no_items S writer reader nodes id at w r kept branch q a b pair of_writer of_reader none leads arrives =
    subst (λ (x : At). ItemsStandAs S writer reader nodes id x (Run.Good kept 0 branch a b) []) (sym pair) (λ are is. record {
      to = q.0;
      leads = leads;
      arrives = arrives;
      of_writer = of_writer;
      of_reader = of_reader;
      counted = refl;
      made = [];
      so_far = so_far_none (λ (k : ℕ) (us : List Value). resolve_items writer reader (node_at writer a.0) (node_at reader b.0) k (values_from us)) values_before [] (λ x. refl);
      stands = none;
    })

-- ---- Items of a run

module _ {I O : Type 0} (S : List Node → ℕ → Place → I → List Value → Type 0) (SO : List Node → Node → Place → O → Value → Type 0) (writer reader nodes : List Node) (id : ℕ) (vs : List Value) (v : Value) where
  pub good_item : (SN : List Node → ℕ → Place → I → List Value → Type 0) (at : At) (old new : I) (count next : ℕ) (branch : Option ℕ) (a b : NodeId) (out : O) → ((at : Place) (us : List Value) (u : Value) → S reader b.0 at old us → of_node SO reader b.0 out u → SN reader b.0 at new (us ++ u ∷ []))
      → next ≡ count + 1
      → ItemsStandAs S writer reader nodes id at (Run.Good old count branch a b) vs → StandsAs SO writer reader nodes (node_at nodes id) (Pair a b) (Made.Good out) v
      → ItemsStandAs SN writer reader nodes id at (Run.Good new next branch a b) (vs ++ v ∷ [])
  good_item SN Ignored old new count next branch a b out law up h stands = absurd h
  good_item SN (Pair w r) old new count next branch a b out law up h stands = λ are is.
      let wn = node_at writer w.0 in
      let good = h are is in
      let made = good_made (of_node SO reader b.0) out (resolve writer reader (node_at writer a.0) (node_at reader b.0) v)
      (stands are (node_there S writer reader wn r.0 old count branch a b vs good nodes id are is)) in
      record {
        to = good.to;
        leads = good.leads;
        arrives = good.arrives;
        of_writer = good.of_writer;
        of_reader = good.of_reader;
        counted = counted_up vs v count next good.counted up;
        made = good.made ++ made.0 ∷ [];
        so_far = so_far_more (λ k us. resolve_items writer reader (node_at writer a.0) (node_at reader b.0) k (values_from us)) values_before vs v good.made (good.made ++ made.0 ∷ []) good.so_far
            (λ more. item_good writer reader (node_at writer a.0) (node_at reader b.0) (length vs) v more good.made made.0 made.1);
        stands = law (placed branch good.to) good.made made.0 good.stands made.2;
      }

  -- so many more, that are the same
  pub good_items : (n : ℕ) (at : At) (old new : I) (count next : ℕ) (branch : Option ℕ) (a b : NodeId) (out : O) → ((at : Place) (us : List Value) (u : Value) → S reader b.0 at old us → of_node SO reader b.0 out u → S reader b.0 at new (us ++ replicate n u))
      → 0 < n → next ≡ count + n
      → ItemsStandAs S writer reader nodes id at (Run.Good old count branch a b) vs → StandsAs SO writer reader nodes (node_at nodes id) (Pair a b) (Made.Good out) v
      → ItemsStandAs S writer reader nodes id at (Run.Good new next branch a b) (vs ++ replicate n v)
  good_items n Ignored old new count next branch a b out law some up h stands = absurd h
  good_items zero (Pair w r) old new count next branch a b out law some up h stands = absurd (omega (arith, some))
  good_items (suc n) (Pair w r) old new count next branch a b out law some up h stands = λ are is.
      let wn = node_at writer w.0 in
      let good = h are is in
      let made = good_made (of_node SO reader b.0) out (resolve writer reader (node_at writer a.0) (node_at reader b.0) v)
      (stands are (node_there S writer reader wn r.0 old count branch a b vs good nodes id are is)) in
      record {
        to = good.to;
        leads = good.leads;
        arrives = good.arrives;
        of_writer = good.of_writer;
        of_reader = good.of_reader;
        counted = counted_more vs (replicate (suc n) v) count next (suc n) (length-replicate (suc n) v) good.counted up;
        made = good.made ++ replicate (suc n) made.0;
        so_far = so_far_again writer reader (node_at writer a.0) (node_at reader b.0) v made.0 made.1 (suc n) vs good.made good.so_far;
        stands = law (placed branch good.to) good.made made.0 good.stands made.2;
      }

  pub faulty_item : (at : At) (old : I) (count : ℕ) (branch : Option ℕ) (a b : NodeId) (fault outer : Box Fault) → turned outer.value ≡ fault_in count (turned fault.value)
      → ItemsStandAs S writer reader nodes id at (Run.Good old count branch a b) vs → StandsAs SO writer reader nodes (node_at nodes id) (Pair a b) (Made.Faulty fault) v
      → ItemsStandAs S writer reader nodes id at (Run.Faulty outer) (vs ++ v ∷ [])
  faulty_item Ignored old count branch a b fault outer step h stands = absurd h
  faulty_item (Pair w r) old count branch a b fault outer step h stands = λ are is more.
      let wn = node_at writer w.0 in
      let good = h are is in
      let bad = stands are (node_there S writer reader wn r.0 old count branch a b vs good nodes id are is) in
      array_fails S writer reader wn r.0 old count branch a b vs good v (turned fault.value) bad more ∙ ap as_fault (sym step)

  pub no_item : (at : At) (old : I) (count : ℕ) (branch : Option ℕ) (a b : NodeId)
      → ItemsStandAs S writer reader nodes id at (Run.Good old count branch a b) vs → StandsAs SO writer reader nodes (node_at nodes id) (Pair a b) Made.Nothing v
      → ItemsStandAs S writer reader nodes id at (Run.Good old count branch a b) (vs ++ v ∷ [])
  no_item Ignored old count branch a b h stands = absurd h
  no_item (Pair w r) old count branch a b h stands = λ are is.
      let good = h are is in
      absurd (stands are (node_there S writer reader (node_at writer w.0) r.0 old count branch a b vs good nodes id are is))

  pub items_after_fault : (n : ℕ) (at : At) (fault : Box Fault) → ItemsStandAs S writer reader nodes id at (Run.Faulty fault) vs → ItemsStandAs S writer reader nodes id at (Run.Faulty fault) (vs ++ replicate n v)
  items_after_fault n Ignored fault h = absurd h
  items_after_fault n (Pair w r) fault h = λ are is more.
      subst (λ (xs : List Value). resolve writer reader (node_at writer w.0) (node_at reader r.0) (Value.array (values_from xs)) ≡ Err (turned fault.value)) (sym (append_assoc vs (replicate n v) more))
      (h are is (replicate n v ++ more))

-- ---- Arrays

module _ {I O : Type 0} (S : List Node → ℕ → Place → I → List Value → Type 0) (SO : List Node → Node → Place → O → Value → Type 0) (writer reader nodes : List Node) (id : ℕ) (vs : List Value) where
  pub good_array : (at : At) (kept : I) (count : ℕ) (branch : Option ℕ) (a b : NodeId) (SN : List Node → Node → Place → O → Value → Type 0) (result : Result (Made O) AllocError)
      → ((r q : ℕ) (us : List Value) → LeadsTo reader r branch q → node_at reader q ≡ Node.array b.0 → S reader b.0 (placed branch q) kept us → IfOk result (λ made. MadeAs (of_node SN reader r) made (Ok (in_branch branch (Value.array (values_from us))))))
      → ItemsStandAs S writer reader nodes id at (Run.Good kept count branch a b) vs → IfOk result (λ made. StandsAs SN writer reader nodes (Node.array id) at made (Value.array (values_from vs)))
  good_array at kept count branch a b SN (Err e) law h = tt
  good_array Ignored kept count branch a b SN (Ok made) law h = absurd h
  good_array (Pair w r) kept count branch a b SN (Ok made) law h = λ are is.
      let wn = node_at writer w.0 in
      let good = h are is in
      let there = arrived_array writer reader wn r.0 branch good.to good.arrives id b is good.of_reader in
      subst (MadeAs (of_node SN reader r.0) made) (sym (array_whole S writer reader wn r.0 kept count branch a b vs good ∙ wrapped_ok branch (Value.array (values_from good.made))))
      (law r.0 good.to good.made good.arrives.into there good.stands)

  pub faulty_array : (at : At) (fault : Box Fault) → ItemsStandAs S writer reader nodes id at (Run.Faulty fault) vs → StandsAs SO writer reader nodes (Node.array id) at (Made.Faulty fault) (Value.array (values_from vs))
  faulty_array Ignored fault h = absurd h
  faulty_array (Pair w r) fault h = λ are is.
      subst (λ (xs : List Value). resolve writer reader (node_at writer w.0) (node_at reader r.0) (Value.array (values_from xs)) ≡ Err (turned fault.value)) (append-nil vs) (h are is [])
