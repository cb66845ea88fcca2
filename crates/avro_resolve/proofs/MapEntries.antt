-- Entries of a map that are resolved as they are read.
use Rattle.std.proofs.Common.{◌≡◌, ℕ, suc, ◌+◌, List, [], ◌∷◌, ◌++◌, length, Option, Result, Ok, Err, refl, sym, ap, ◌∙◌, subst, arith}
use Rattle.std.specs.Prelude.{IfOk}
use Rattle.std.specs.Global.{Box}
use Rattle.std.specs.declared.alloc.AllocError.{AllocError}
use Rattle.std.proofs.lemmas.List.{append-nil}
use Rattle.avro_schema.specs.Value.{Value, Entries, no_entries, entry}
use Rattle.avro_schema.specs.Node.{Node, node_at, values_node}
use Rattle.avro_schema.specs.Seen.{entries_from}
use Rattle.avro_schema.specs.declared.schema.NodeId.{NodeId}
use Rattle.avro_resolve.specs.Ends.{turned, entries_before}
use Rattle.avro_compare.specs.Fault.{ResolutionFault, fault_in}
use Rattle.avro_resolve.specs.inside.Guided.{Arrives, Leads, MadeAs, StandsAs, EntriesGood, EntriesStandAs, LeadsTo, of_node}
use Rattle.avro_binary.specs.Places.{in_branch, placed}
use Rattle.avro_binary.specs.declared.place.Place.{Place}
use Rattle.avro_compare.specs.Pairs.{wrapped, value_id}
use Rattle.avro_compare.specs.Resolve.{Resolved, resolve, resolve_entries, both, inside, result_map, part_at}
use Rattle.avro_compare.specs.declared.error.Fault.{Fault}
use Rattle.avro_compare.specs.declared.comparison.At.{At}
use Rattle.avro_compare.specs.declared.comparison.At.TheVariants.{Ignored, Pair}
use Rattle.avro_resolve.specs.declared.resolving.guided.Made.{Made}
use Rattle.avro_resolve.specs.declared.resolving.guided.Run.{Run}
use Rattle.avro_compare.proofs.public.Lists.{one_longer}
use Rattle.avro_resolve.proofs.Arriving.{arrived_map, wrapped_ok}
use Rattle.avro_resolve.proofs.Guiding.{as_fault, good_made, wrapped_fault, so_far_none, so_far_more, so_far_fails, so_far_whole}

entries_before-none : (us : List (List ℕ × Value)) → entries_before us no_entries ≡ entries_from us
entries_before-none [] = refl
entries_before-none (u ∷ us) = ap (entry u.0 u.1) (entries_before-none us)

entries_before-more : (us : List (List ℕ × Value)) (k : List ℕ) (u : Value) (es : Entries) → entries_before us (entry k u es) ≡ entries_before (us ++ (k, u) ∷ []) es
entries_before-more [] k u es = refl
entries_before-more (x ∷ us) k u es = ap (entry x.0 x.1) (entries_before-more us k u es)

-- one more is counted
counted_up : (vs : List (List ℕ × Value)) (key : List ℕ) (v : Value) (count next : ℕ) → count ≡ length vs → next ≡ count + 1 → next ≡ length (vs ++ (key, v) ∷ [])
counted_up vs key v count next counted up = omega (arith, counted, up, one_longer vs (key, v))

-- ---- Steps

module _ (writer reader : List Node) (w r : Node) (k : ℕ) (key : List ℕ) (v : Value) (more : List (List ℕ × Value)) where
  entry_good : (made : List (List ℕ × Value)) (u : Value) → resolve writer reader w r v ≡ Ok u
      → result_map (entries_before made) (resolve_entries writer reader w r k (entries_from ((key, v) ∷ more))) ≡ result_map (entries_before (made ++ (key, u) ∷ [])) (resolve_entries writer reader w r (suc k) (entries_from more))
  entry_good made u e =
      ap (λ (q : Resolved). result_map (entries_before made) (both (entry key) (inside k q) (resolve_entries writer reader w r (suc k) (entries_from more)))) e ∙ moved (resolve_entries writer reader w r (suc k) (entries_from more))
    where
      moved : (rest : Result Entries ResolutionFault) → result_map (entries_before made) (both (entry key) (inside k (Ok u)) rest) ≡ result_map (entries_before (made ++ (key, u) ∷ [])) rest
      moved (Ok vs) = ap (λ (zs : Entries). Ok zs) (entries_before-more made key u vs)
      moved (Err f) = refl

  entry_bad : (f : ResolutionFault) → resolve writer reader w r v ≡ Err f → resolve_entries writer reader w r k (entries_from ((key, v) ∷ more)) ≡ Err (fault_in k f)
  entry_bad f e = ap (λ (q : Resolved). both (entry key) (inside k q) (resolve_entries writer reader w r (suc k) (entries_from more))) e

module _ {I : Type 0} (S : List Node → ℕ → Place → I → List (List ℕ × Value) → Type 0) (writer reader : List Node) (w : Node) (r : ℕ) (kept : I) (count : ℕ) (branch : Option ℕ) (a b : NodeId) (vs : List (List ℕ × Value)) (good : EntriesGood S writer reader w r kept count branch a b vs) where
  -- the nodes of the items
  abbrev entries_run : ℕ → List (List ℕ × Value) → Result Entries ResolutionFault
  entries_run k us = resolve_entries writer reader (node_at writer a.0) (node_at reader b.0) k (entries_from us)

  map_leads : (xs : List (List ℕ × Value)) → resolve writer reader w (node_at reader r) (Value.map_of (entries_from xs)) ≡ wrapped branch (result_map Value.map_of (entries_run 0 xs))
  map_leads xs =
      good.leads (λ q. result_map Value.map_of (resolve_entries writer reader (part_at writer (values_node w)) (part_at reader (values_node q)) 0 (entries_from xs)))
      ∙ ap (λ (i : ℕ). wrapped branch (result_map Value.map_of (resolve_entries writer reader (node_at writer i) (node_at reader (value_id (node_at reader good.to))) 0 (entries_from xs)))) (sym good.of_writer)
      ∙ ap (λ (i : ℕ). wrapped branch (result_map Value.map_of (resolve_entries writer reader (node_at writer a.0) (node_at reader i) 0 (entries_from xs)))) (sym good.of_reader)

  node_there : (nodes : List Node) (id : ℕ) → nodes ≡ writer → Node.map_of id ≡ w → node_at nodes id ≡ node_at writer a.0
  node_there nodes id are is =
      let same : id ≡ a.0 = ap value_id is ∙ sym good.of_writer in
      ap (λ (ns : List Node). node_at ns id) are ∙ ap (node_at writer) same

  map_whole : resolve writer reader w (node_at reader r) (Value.map_of (entries_from vs)) ≡ wrapped branch (Ok (Value.map_of (entries_from good.made)))
  map_whole =
      map_leads vs ∙ ap (λ (x : Result Entries ResolutionFault). wrapped branch (result_map Value.map_of x)) (so_far_whole entries_run entries_before vs good.made good.so_far)
      ∙ ap (λ (us : Entries). wrapped branch (Ok (Value.map_of us))) (entries_before-none good.made)

  map_fails : (key : List ℕ) (v : Value) (f : ResolutionFault) → resolve writer reader (node_at writer a.0) (node_at reader b.0) v ≡ Err f
      → (more : List (List ℕ × Value)) → resolve writer reader w (node_at reader r) (Value.map_of (entries_from ((vs ++ (key, v) ∷ []) ++ more))) ≡ Err (fault_in count f)
  map_fails key v f e more =
      map_leads ((vs ++ (key, v) ∷ []) ++ more)
      ∙ ap (λ (x : Result Entries ResolutionFault). wrapped branch (result_map Value.map_of x))
      (so_far_fails entries_run entries_before vs (key, v) good.made (fault_in (length vs) f) good.so_far (λ rest. entry_bad writer reader (node_at writer a.0) (node_at reader b.0) (length vs) key v rest f e) more)
      ∙ wrapped_fault branch (fault_in (length vs) f) ∙ ap (λ (k : ℕ). as_fault (fault_in k f)) (sym good.counted)

-- none yet, where a pair leads to a node
pub no_entries_yet : {I : Type 0} (S : List Node → ℕ → Place → I → List (List ℕ × Value) → Type 0) (writer reader nodes : List Node) (id : ℕ) (at : At) (w r : NodeId) (kept : I) (branch : Option ℕ) (q a b : NodeId)
    → at ≡ Pair w r → a.0 ≡ value_id (node_at writer w.0) → b.0 ≡ value_id (node_at reader q.0) → S reader b.0 (placed branch q.0) kept []
    → Leads writer reader (node_at writer w.0) (node_at reader r.0) branch q.0 → Arrives writer reader (node_at writer w.0) r.0 branch q.0
    → EntriesStandAs S writer reader nodes id at (Run.Good kept 0 branch a b) []
no_entries_yet S writer reader nodes id at w r kept branch q a b pair of_writer of_reader none leads arrives =
    subst (λ (x : At). EntriesStandAs S writer reader nodes id x (Run.Good kept 0 branch a b) []) (sym pair) (λ are is. record {
      to = q.0;
      leads = leads;
      arrives = arrives;
      of_writer = of_writer;
      of_reader = of_reader;
      counted = refl;
      made = [];
      so_far = so_far_none (λ (k : ℕ) (us : List (List ℕ × Value)). resolve_entries writer reader (node_at writer a.0) (node_at reader b.0) k (entries_from us)) entries_before [] (λ x. refl);
      stands = none;
    })

-- ---- Items of a run

module _ {I O : Type 0} (S : List Node → ℕ → Place → I → List (List ℕ × Value) → Type 0) (SO : List Node → Node → Place → O → Value → Type 0) (writer reader nodes : List Node) (id : ℕ) (vs : List (List ℕ × Value)) (key : List ℕ) (v : Value) where
  pub good_entry : (SN : List Node → ℕ → Place → I → List (List ℕ × Value) → Type 0) (at : At) (old new : I) (count next : ℕ) (branch : Option ℕ) (a b : NodeId) (out : O) → ((at : Place) (us : List (List ℕ × Value)) (u : Value) → S reader b.0 at old us → of_node SO reader b.0 out u → SN reader b.0 at new (us ++ (key, u) ∷ []))
      → next ≡ count + 1
      → EntriesStandAs S writer reader nodes id at (Run.Good old count branch a b) vs → StandsAs SO writer reader nodes (node_at nodes id) (Pair a b) (Made.Good out) v
      → EntriesStandAs SN writer reader nodes id at (Run.Good new next branch a b) (vs ++ (key, v) ∷ [])
  good_entry SN Ignored old new count next branch a b out law up h stands = absurd h
  good_entry SN (Pair w r) old new count next branch a b out law up h stands = λ are is.
      let wn = node_at writer w.0 in
      let good = h are is in
      let made = good_made (of_node SO reader b.0) out (resolve writer reader (node_at writer a.0) (node_at reader b.0) v)
      (stands are (node_there S writer reader wn r.0 old count branch a b vs good nodes id are is)) in
      record {
        to = good.to;
        leads = good.leads;
        arrives = good.arrives;
        of_writer = good.of_writer;
        of_reader = good.of_reader;
        counted = counted_up vs key v count next good.counted up;
        made = good.made ++ (key, made.0) ∷ [];
        so_far = so_far_more (λ k us. resolve_entries writer reader (node_at writer a.0) (node_at reader b.0) k (entries_from us)) entries_before vs (key, v) good.made (good.made ++ (key, made.0) ∷ []) good.so_far
            (λ more. entry_good writer reader (node_at writer a.0) (node_at reader b.0) (length vs) key v more good.made made.0 made.1);
        stands = law (placed branch good.to) good.made made.0 good.stands made.2;
      }

  pub faulty_entry : (at : At) (old : I) (count : ℕ) (branch : Option ℕ) (a b : NodeId) (fault outer : Box Fault) → turned outer.value ≡ fault_in count (turned fault.value)
      → EntriesStandAs S writer reader nodes id at (Run.Good old count branch a b) vs → StandsAs SO writer reader nodes (node_at nodes id) (Pair a b) (Made.Faulty fault) v
      → EntriesStandAs S writer reader nodes id at (Run.Faulty outer) (vs ++ (key, v) ∷ [])
  faulty_entry Ignored old count branch a b fault outer step h stands = absurd h
  faulty_entry (Pair w r) old count branch a b fault outer step h stands = λ are is more.
      let wn = node_at writer w.0 in
      let good = h are is in
      let bad = stands are (node_there S writer reader wn r.0 old count branch a b vs good nodes id are is) in
      map_fails S writer reader wn r.0 old count branch a b vs good key v (turned fault.value) bad more ∙ ap as_fault (sym step)

  pub no_entry : (at : At) (old : I) (count : ℕ) (branch : Option ℕ) (a b : NodeId)
      → EntriesStandAs S writer reader nodes id at (Run.Good old count branch a b) vs → StandsAs SO writer reader nodes (node_at nodes id) (Pair a b) Made.Nothing v
      → EntriesStandAs S writer reader nodes id at (Run.Good old count branch a b) (vs ++ (key, v) ∷ [])
  no_entry Ignored old count branch a b h stands = absurd h
  no_entry (Pair w r) old count branch a b h stands = λ are is.
      let good = h are is in
      absurd (stands are (node_there S writer reader (node_at writer w.0) r.0 old count branch a b vs good nodes id are is))

-- ---- Arrays

module _ {I O : Type 0} (S : List Node → ℕ → Place → I → List (List ℕ × Value) → Type 0) (SO : List Node → Node → Place → O → Value → Type 0) (writer reader nodes : List Node) (id : ℕ) (vs : List (List ℕ × Value)) where
  pub good_map : (at : At) (kept : I) (count : ℕ) (branch : Option ℕ) (a b : NodeId) (SN : List Node → Node → Place → O → Value → Type 0) (result : Result (Made O) AllocError)
      → ((r q : ℕ) (us : List (List ℕ × Value)) → LeadsTo reader r branch q → node_at reader q ≡ Node.map_of b.0 → S reader b.0 (placed branch q) kept us → IfOk result (λ made. MadeAs (of_node SN reader r) made (Ok (in_branch branch (Value.map_of (entries_from us))))))
      → EntriesStandAs S writer reader nodes id at (Run.Good kept count branch a b) vs → IfOk result (λ made. StandsAs SN writer reader nodes (Node.map_of id) at made (Value.map_of (entries_from vs)))
  good_map at kept count branch a b SN (Err e) law h = tt
  good_map Ignored kept count branch a b SN (Ok made) law h = absurd h
  good_map (Pair w r) kept count branch a b SN (Ok made) law h = λ are is.
      let wn = node_at writer w.0 in
      let good = h are is in
      let there = arrived_map writer reader wn r.0 branch good.to good.arrives id b is good.of_reader in
      subst (MadeAs (of_node SN reader r.0) made) (sym (map_whole S writer reader wn r.0 kept count branch a b vs good ∙ wrapped_ok branch (Value.map_of (entries_from good.made))))
      (law r.0 good.to good.made good.arrives.into there good.stands)

  pub faulty_map : (at : At) (fault : Box Fault) → EntriesStandAs S writer reader nodes id at (Run.Faulty fault) vs → StandsAs SO writer reader nodes (Node.map_of id) at (Made.Faulty fault) (Value.map_of (entries_from vs))
  faulty_map Ignored fault h = absurd h
  faulty_map (Pair w r) fault h = λ are is.
      subst (λ (xs : List (List ℕ × Value)). resolve writer reader (node_at writer w.0) (node_at reader r.0) (Value.map_of (entries_from xs)) ≡ Err (turned fault.value)) (append-nil vs) (h are is [])
