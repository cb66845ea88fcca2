-- Fields of a record that are resolved as they are read.
use Rattle.std.proofs.Common.{◌≡◌, ℕ, suc, ◌+◌, List, [], ◌∷◌, ◌++◌, length, Option, Some, None, Result, Ok, Err, refl, sym, ap, ◌∙◌, subst, arith}
use Rattle.std.specs.Prelude.{IfOk, slice_get, true, unwrap_or}
use Rattle.std.specs.Global.{Vec, Box}
use Rattle.std.specs.declared.alloc.AllocError.{AllocError}
use Rattle.std.proofs.lemmas.List.{append-nil, append_assoc}
use Rattle.avro_name.specs.Name.{Name}
use Rattle.avro_schema.specs.Value.{Value}
use Rattle.avro_schema.specs.Node.{Node, FieldNode, node_at, field_ids}
use Rattle.avro_schema.specs.Fits.{fits, fields_fit}
use Rattle.avro_schema.specs.WellFormed.{is_schema}
use Rattle.avro_schema.specs.Seen.{values_from}
use Rattle.avro_schema.specs.declared.schema.NodeId.{NodeId}
use Rattle.avro_resolve.specs.Ends.{turned, before, AllBelow, SlotsAre}
use Rattle.avro_compare.specs.Fault.{ResolutionFault, fault_in}
use Rattle.avro_resolve.specs.inside.Guided.{Arrives, MadeAs, StandsAs, Leads, LeadsTo, FieldsGood, FieldsStandAs, of_node}
use Rattle.avro_binary.specs.Places.{in_branch, placed}
use Rattle.avro_binary.specs.declared.place.Place.{Place}
use Rattle.avro_compare.specs.Pairs.{wrapped, part_to, field_for}
use Rattle.avro_compare.specs.Resolve.{Resolved, Sourced, resolve, resolve_sources, with_sourced, both, inside, result_map, field_values, fields_at, record_or_missing}
use Rattle.avro_compare.specs.Source.{missing_field, reader_field}
use Rattle.avro_compare.specs.declared.error.Fault.{Fault}
use Rattle.avro_compare.specs.declared.comparison.At.{At}
use Rattle.avro_compare.specs.declared.comparison.At.TheVariants.{Ignored, Pair}
use Rattle.avro_resolve.specs.declared.resolving.guided.Made.{Made}
use Rattle.avro_resolve.specs.declared.resolving.guided.Slots.{Slots}
use Rattle.avro_compare.proofs.public.Lists.{one_longer}
use Rattle.avro_resolve.proofs.Arriving.{arrived_record, fits_there, wrapped_ok}
use Rattle.avro_resolve.proofs.Guiding.{as_fault, good_made, wrapped_fault, so_far_none, so_far_more, so_far_fails, so_far_whole}
use Rattle.avro_resolve.proofs.Slots.{below_more, below_last, no_slots_yet, slots_none, slots_some}

-- ---- Steps over the writer's fields

module _ (writer reader : List Node) (ws rs : List FieldNode) (k : ℕ) (v : Value) (more : List Value) where
  -- the node of the writer's field, and the fields that follow
  abbrev id_here : ℕ
  id_here = unwrap_or (slice_get (field_ids ws) k) 0

  abbrev value_for : FieldNode → Resolved
  value_for f = resolve writer reader (node_at writer id_here) (node_at reader f.node) v

  abbrev sources_after : Result Sourced ResolutionFault
  sources_after = resolve_sources writer reader ws rs (suc k) (values_from more)

  field_good : (found : Sourced) (f : FieldNode) (u : Value) → reader_field ws rs k ≡ Some f → value_for f ≡ Ok u
      → result_map (before found) (resolve_sources writer reader ws rs k (values_from (v ∷ more))) ≡ result_map (before (found ++ (k, u) ∷ [])) sources_after
  field_good found f u is e =
      ap (λ (o : Option FieldNode). result_map (before found) (with_sourced o k value_for sources_after)) is
      ∙ ap (λ (q : Resolved). result_map (before found) (both (λ x rest. (k, x) ∷ rest) (inside k q) sources_after)) e ∙ moved sources_after
    where
      moved : (rest : Result Sourced ResolutionFault) → result_map (before found) (both (λ x rest. (k, x) ∷ rest) (inside k (Ok u)) rest) ≡ result_map (before (found ++ (k, u) ∷ [])) rest
      moved (Ok later) = ap (λ (zs : Sourced). Ok zs) (sym (append_assoc found ((k, u) ∷ []) later))
      moved (Err g) = refl

  field_bad : (f : FieldNode) (g : ResolutionFault) → reader_field ws rs k ≡ Some f → value_for f ≡ Err g → resolve_sources writer reader ws rs k (values_from (v ∷ more)) ≡ Err (fault_in k g)
  field_bad f g is e =
      ap (λ (o : Option FieldNode). with_sourced o k value_for sources_after) is ∙ ap (λ (q : Resolved). both (λ x rest. (k, x) ∷ rest) (inside k q) sources_after) e

  field_none : (found : Sourced) → reader_field ws rs k ≡ None → result_map (before found) (resolve_sources writer reader ws rs k (values_from (v ∷ more))) ≡ result_map (before found) sources_after
  field_none found is = ap (λ (o : Option FieldNode). result_map (before found) (with_sourced o k value_for sources_after)) is

-- no fields yet, where a pair leads to a record of which no field is missing
pub no_slots : {O F : Type 0} (S : List Node → Node → Place → O → Value → Type 0) (T : List Node → List FieldNode → Place → F → List Value → Type 0) (writer reader nodes : List Node) (fs : List FieldNode) (at : At) (w r : NodeId) (slots : Vec (Option O)) (start : F) (branch : Option ℕ) (q : NodeId)
    → at ≡ Pair w r → slots.items ≡ [] → T reader (fields_at (node_at reader q.0)) (placed branch q.0) start [] → Leads writer reader (node_at writer w.0) (node_at reader r.0) branch q.0
    → Arrives writer reader (node_at writer w.0) r.0 branch q.0
    → missing_field (fields_at (node_at writer w.0)) (fields_at (node_at reader q.0)) ≡ None → FieldsStandAs S T writer reader nodes fs at (Slots.Good slots start branch w q) []
no_slots {O = O} S T writer reader nodes fs at w r slots start branch q pair none starts leads arrives complete =
    subst (λ (x : At). FieldsStandAs S T writer reader nodes fs x (Slots.Good slots start branch w q) []) (sym pair) (λ are same. record {
      leads = leads;
      arrives = arrives;
      of_writer = refl;
      complete = complete;
      counted = ap length none;
      found = [];
      below = tt;
      so_far = so_far_none (λ (k : ℕ) (us : List Value). resolve_sources writer reader (fields_at (node_at writer w.0)) (fields_at (node_at reader q.0)) k (values_from us)) before [] (λ a. refl);
      stands = subst (λ (xs : List (Option O)). SlotsAre (of_node S reader) (fields_at (node_at writer w.0)) (fields_at (node_at reader q.0)) [] xs) (sym none)
          (no_slots_yet (of_node S reader) (fields_at (node_at writer w.0)) (fields_at (node_at reader q.0)));
      starts = starts;
    })

-- ---- What a good run of fields leads to

module _ {O F : Type 0} (S : List Node → Node → Place → O → Value → Type 0) (T : List Node → List FieldNode → Place → F → List Value → Type 0) (writer reader : List Node) (w : Node) (r : ℕ) (slots : List (Option O)) (start : F) (branch : Option ℕ) (a b : NodeId) (vs : List Value) (good : FieldsGood S T writer reader w r slots start branch a b vs) where
  abbrev pub writes : List FieldNode
  writes = fields_at (node_at writer a.0)

  abbrev pub reads : List FieldNode
  reads = fields_at (node_at reader b.0)

  abbrev fields_run : ℕ → List Value → Result Sourced ResolutionFault
  fields_run k us = resolve_sources writer reader writes reads k (values_from us)

  record_leads : (xs : List Value) → resolve writer reader w (node_at reader r) (Value.record_of (values_from xs)) ≡ wrapped branch (result_map (λ found. Value.record_of (field_values writes found reads)) (fields_run 0 xs))
  record_leads xs =
      good.leads (λ q. record_or_missing (fields_at w) (fields_at q) (missing_field (fields_at w) (fields_at q)) (resolve_sources writer reader (fields_at w) (fields_at q) 0 (values_from xs)))
      ∙ ap (λ (o : Option ℕ). wrapped branch (record_or_missing (fields_at w) reads o (resolve_sources writer reader (fields_at w) reads 0 (values_from xs)))) good.complete
      ∙ ap (λ (n : Node). wrapped branch (result_map (λ found. Value.record_of (field_values (fields_at n) found reads)) (resolve_sources writer reader (fields_at n) reads 0 (values_from xs)))) (sym good.of_writer)

  record_whole : resolve writer reader w (node_at reader r) (Value.record_of (values_from vs)) ≡ wrapped branch (Ok (Value.record_of (field_values writes good.found reads)))
  record_whole =
      record_leads vs ∙ ap (λ (x : Result Sourced ResolutionFault). wrapped branch (result_map (λ found. Value.record_of (field_values writes found reads)) x)) (so_far_whole fields_run before vs good.found good.so_far)
      ∙ ap (λ (found : Sourced). wrapped branch (Ok (Value.record_of (field_values writes found reads)))) (append-nil good.found)

  record_fails : (v : Value) (f : FieldNode) (g : ResolutionFault) → reader_field writes reads (length vs) ≡ Some f
      → resolve writer reader (node_at writer (unwrap_or (slice_get (field_ids writes) (length vs)) 0)) (node_at reader f.node) v ≡ Err g
      → (more : List Value) → resolve writer reader w (node_at reader r) (Value.record_of (values_from ((vs ++ v ∷ []) ++ more))) ≡ Err (fault_in (length slots) g)
  record_fails v f g is e more =
      record_leads ((vs ++ v ∷ []) ++ more)
      ∙ ap (λ (x : Result Sourced ResolutionFault). wrapped branch (result_map (λ found. Value.record_of (field_values writes found reads)) x))
      (so_far_fails fields_run before vs v good.found (fault_in (length vs) g) good.so_far (λ rest. field_bad writer reader writes reads (length vs) v rest f g is e) more)
      ∙ wrapped_fault branch (fault_in (length vs) g) ∙ ap (λ (k : ℕ). as_fault (fault_in k g)) (sym good.counted)

  -- the node that is read is the writer's field's
  field_there : (nodes : List Node) (fs : List FieldNode) (id : ℕ) → nodes ≡ writer → fields_at w ≡ fs → slice_get (field_ids fs) (length vs) ≡ Some id
      → node_at nodes id ≡ node_at writer (unwrap_or (slice_get (field_ids writes) (length vs)) 0)
  field_there nodes fs id are of_record is =
      let same : writes ≡ fs = ap fields_at good.of_writer ∙ of_record in
      let there : id ≡ unwrap_or (slice_get (field_ids writes) (length vs)) 0 =
      sym (ap (λ (gs : List FieldNode). unwrap_or (slice_get (field_ids gs) (length vs)) 0) same ∙ ap (λ (o : Option ℕ). unwrap_or o 0) is) in
      ap (λ (ns : List Node). node_at ns id) are ∙ ap (node_at writer) there

  counted_more : (o : Option O) (v : Value) → length (slots ++ o ∷ []) ≡ length (vs ++ v ∷ [])
  counted_more o v = one_longer slots o ∙ ap suc good.counted ∙ sym (one_longer vs v)

-- ---- What is made of one field, by what it is for

module _ {O : Type 0} (S : List Node → Node → Place → O → Value → Type 0) (writer reader nodes : List Node) (n : Node) (j : ℕ) (v : Value) (are : nodes ≡ writer) (there : n ≡ node_at writer j) where
  sourced_good : (o : Option FieldNode) (out : O) → StandsAs S writer reader nodes n (part_to j o) (Made.Good out) v
      → (f : FieldNode) × (u : Value) × (o ≡ Some f) × (resolve writer reader (node_at writer j) (node_at reader f.node) v ≡ Ok u) × of_node S reader f.node out u
  sourced_good None out h = absurd h
  sourced_good (Some f) out h =
      let made = good_made (of_node S reader f.node) out (resolve writer reader (node_at writer j) (node_at reader f.node) v) (h are there) in
      (f, made.0, refl, made.1, made.2)

  sourced_bad : (o : Option FieldNode) (fault : Box Fault) → StandsAs S writer reader nodes n (part_to j o) (Made.Faulty fault) v
      → (f : FieldNode) × (o ≡ Some f) × (resolve writer reader (node_at writer j) (node_at reader f.node) v ≡ Err (turned fault.value))
  sourced_bad None fault h = absurd h
  sourced_bad (Some f) fault h = (f, refl, h are there)

  sourced_none : (o : Option FieldNode) → StandsAs S writer reader nodes n (part_to j o) Made.Nothing v → o ≡ None
  sourced_none None h = refl
  sourced_none (Some f) h = absurd (h are there)

-- ---- Fields of a run

module _ {O F : Type 0} (S : List Node → Node → Place → O → Value → Type 0) (T : List Node → List FieldNode → Place → F → List Value → Type 0) (writer reader nodes : List Node) (fs : List FieldNode) (id : ℕ) (vs : List Value) (v : Value) (is_field : slice_get (field_ids fs) (length vs) ≡ Some id) where
  abbrev stands_at : NodeId → NodeId → ℕ → Made O → Type 0
  stands_at a b k made = StandsAs S writer reader nodes (node_at nodes id) (field_for (fields_at (node_at writer a.0)) (fields_at (node_at reader b.0)) k) made v

  at_count : (a b : NodeId) (made : Made O) (k : ℕ) → k ≡ length vs → stands_at a b k made → stands_at a b (length vs) made
  at_count a b made k e h = subst (λ (i : ℕ). stands_at a b i made) e h

  pub good_field : (at : At) (slots after : Vec (Option O)) (start : F) (branch : Option ℕ) (a b : NodeId) (out : O) → after.items ≡ slots.items ++ Some out ∷ []
      → FieldsStandAs S T writer reader nodes fs at (Slots.Good slots start branch a b) vs → stands_at a b (length slots.items) (Made.Good out)
      → FieldsStandAs S T writer reader nodes fs at (Slots.Good after start branch a b) (vs ++ v ∷ [])
  good_field Ignored slots after start branch a b out pushed h stands = absurd h
  good_field (Pair w r) slots after start branch a b out pushed h stands = λ are of_record.
      let wn = node_at writer w.0 in
      let ws = fields_at (node_at writer a.0) in
      let rs = fields_at (node_at reader b.0) in
      let good = h are of_record in
      let got = sourced_good S writer reader nodes (node_at nodes id) (unwrap_or (slice_get (field_ids ws) (length vs)) 0) v are
      (field_there S T writer reader wn r.0 slots.items start branch a b vs good nodes fs id are of_record is_field)
      (reader_field ws rs (length vs)) out (at_count a b (Made.Good out) (length slots.items) good.counted stands) in
      let found = good.found ++ (length vs, got.1) ∷ [] in
      let one : length vs + 1 ≡ length (vs ++ v ∷ []) = omega (arith, one_longer vs v) in
      subst (λ (xs : List (Option O)). FieldsGood S T writer reader wn r.0 xs start branch a b (vs ++ v ∷ [])) (sym pushed)
      (record {
        leads = good.leads;
        arrives = good.arrives;
        of_writer = good.of_writer;
        complete = good.complete;
        counted = counted_more S T writer reader wn r.0 slots.items start branch a b vs good (Some out) v;
        found = found;
        below = subst (λ (m : ℕ). AllBelow m found) one (below_last (length vs) good.found got.1 good.below);
        so_far = so_far_more (λ k us. resolve_sources writer reader ws rs k (values_from us)) before vs v good.found found good.so_far
            (λ more. field_good writer reader ws rs (length vs) v more good.found got.0 got.1 got.2 got.3);
        stands = slots_some (of_node S reader) ws rs good.found slots.items (length vs) good.counted good.below good.stands got.0 out got.1 got.2 got.4;
        starts = good.starts;
      })

  pub no_field : (at : At) (slots after : Vec (Option O)) (start : F) (branch : Option ℕ) (a b : NodeId) → after.items ≡ slots.items ++ None ∷ []
      → FieldsStandAs S T writer reader nodes fs at (Slots.Good slots start branch a b) vs → stands_at a b (length slots.items) Made.Nothing
      → FieldsStandAs S T writer reader nodes fs at (Slots.Good after start branch a b) (vs ++ v ∷ [])
  no_field Ignored slots after start branch a b pushed h stands = absurd h
  no_field (Pair w r) slots after start branch a b pushed h stands = λ are of_record.
      let wn = node_at writer w.0 in
      let ws = fields_at (node_at writer a.0) in
      let rs = fields_at (node_at reader b.0) in
      let good = h are of_record in
      let none = sourced_none S writer reader nodes (node_at nodes id) (unwrap_or (slice_get (field_ids ws) (length vs)) 0) v are
      (field_there S T writer reader wn r.0 slots.items start branch a b vs good nodes fs id are of_record is_field)
      (reader_field ws rs (length vs)) (at_count a b Made.Nothing (length slots.items) good.counted stands) in
      let one : length vs + 1 ≡ length (vs ++ v ∷ []) = omega (arith, one_longer vs v) in
      subst (λ (xs : List (Option O)). FieldsGood S T writer reader wn r.0 xs start branch a b (vs ++ v ∷ [])) (sym pushed)
      (record {
        leads = good.leads;
        arrives = good.arrives;
        of_writer = good.of_writer;
        complete = good.complete;
        counted = counted_more S T writer reader wn r.0 slots.items start branch a b vs good None v;
        found = good.found;
        below = subst (λ (m : ℕ). AllBelow m good.found) one (below_more (length vs) good.found good.below);
        so_far = so_far_more (λ k us. resolve_sources writer reader ws rs k (values_from us)) before vs v good.found good.found good.so_far
            (λ more. field_none writer reader ws rs (length vs) v more good.found none);
        stands = slots_none (of_node S reader) ws rs good.found slots.items (length vs) good.counted good.below good.stands;
        starts = good.starts;
      })

  pub faulty_field : (at : At) (slots : Vec (Option O)) (start : F) (branch : Option ℕ) (a b : NodeId) (fault outer : Box Fault) → turned outer.value ≡ fault_in (length slots.items) (turned fault.value)
      → FieldsStandAs S T writer reader nodes fs at (Slots.Good slots start branch a b) vs → stands_at a b (length slots.items) (Made.Faulty fault)
      → FieldsStandAs S T writer reader nodes fs at (Slots.Faulty outer) (vs ++ v ∷ [])
  faulty_field Ignored slots start branch a b fault outer step h stands = absurd h
  faulty_field (Pair w r) slots start branch a b fault outer step h stands = λ are of_record more.
      let wn = node_at writer w.0 in
      let ws = fields_at (node_at writer a.0) in
      let rs = fields_at (node_at reader b.0) in
      let good = h are of_record in
      let got = sourced_bad S writer reader nodes (node_at nodes id) (unwrap_or (slice_get (field_ids ws) (length vs)) 0) v are
      (field_there S T writer reader wn r.0 slots.items start branch a b vs good nodes fs id are of_record is_field)
      (reader_field ws rs (length vs)) fault (at_count a b (Made.Faulty fault) (length slots.items) good.counted stands) in
      record_fails S T writer reader wn r.0 slots.items start branch a b vs good v got.0 (turned fault.value) got.1 got.2 more ∙ ap as_fault (sym step)

-- more fields, where one before has a fault
pub fields_after_fault : {O F : Type 0} (S : List Node → Node → Place → O → Value → Type 0) (T : List Node → List FieldNode → Place → F → List Value → Type 0) (writer reader nodes : List Node) (fs : List FieldNode) (vs ws : List Value) (at : At) (fault : Box Fault)
    → FieldsStandAs S T writer reader nodes fs at (Slots.Faulty fault) vs → FieldsStandAs S T writer reader nodes fs at (Slots.Faulty fault) (vs ++ ws)
fields_after_fault S T writer reader nodes fs vs ws Ignored fault h = absurd h
fields_after_fault S T writer reader nodes fs vs ws (Pair w r) fault h = λ are of_record more.
    subst (λ (xs : List Value). resolve writer reader (node_at writer w.0) (node_at reader r.0) (Value.record_of (values_from xs)) ≡ Err (turned fault.value)) (sym (append_assoc vs ws more))
    (h are of_record (ws ++ more))

-- ---- Records

module _ {O F : Type 0} (S : List Node → Node → Place → O → Value → Type 0) (T : List Node → List FieldNode → Place → F → List Value → Type 0) (writer reader nodes : List Node) (name : Name) (aliases : List Name) (fs : List FieldNode) (vs : List Value) where
  -- what was found of a reader's record that a record leads to, by its node
  abbrev MakesRecord : Vec (Option O) → F → Option ℕ → NodeId → NodeId → (List Node → Node → Place → O → Value → Type 0) → Result (Made O) AllocError → Type 0
  MakesRecord slots start branch a b SN result =
      (r : ℕ) (found : Sourced) (name : Name) (aliases : List Name) → LeadsTo reader r branch b.0 → node_at reader b.0 ≡ Node.record_of name aliases (fields_at (node_at reader b.0))
      → fields_fit reader (field_ids (fields_at (node_at reader b.0))) (field_values (fields_at (node_at writer a.0)) found (fields_at (node_at reader b.0))) ≡ true
      → SlotsAre (of_node S reader) (fields_at (node_at writer a.0)) (fields_at (node_at reader b.0)) found slots.items → T reader (fields_at (node_at reader b.0)) (placed branch b.0) start []
      → IfOk result (λ made. MadeAs (of_node SN reader r) made (Ok (in_branch branch (Value.record_of (field_values (fields_at (node_at writer a.0)) found (fields_at (node_at reader b.0)))))))

  pub good_record : (at : At) (slots : Vec (Option O)) (start : F) (branch : Option ℕ) (a b : NodeId) (SN : List Node → Node → Place → O → Value → Type 0) (result : Result (Made O) AllocError)
      → is_schema reader ≡ true → fields_fit nodes (field_ids fs) (values_from vs) ≡ true → MakesRecord slots start branch a b SN result
      → FieldsStandAs S T writer reader nodes fs at (Slots.Good slots start branch a b) vs
      → IfOk result (λ made. StandsAs SN writer reader nodes (Node.record_of name aliases fs) at made (Value.record_of (values_from vs)))
  good_record at slots start branch a b SN (Err e) formed fit law h = tt
  good_record Ignored slots start branch a b SN (Ok made) formed fit law h = absurd h
  good_record (Pair w r) slots start branch a b SN (Ok made) formed fit law h = λ are is.
      let wn = node_at writer w.0 in
      let v = Value.record_of (values_from vs) in
      let good = h are (sym (ap fields_at is)) in
      let u = Value.record_of (field_values (fields_at (node_at writer a.0)) good.found (fields_at (node_at reader b.0))) in
      let whole = record_whole S T writer reader wn r.0 slots.items start branch a b vs good in
      let fit_whole : fits nodes (Node.record_of name aliases fs) v ≡ true = fit in
      let fit_here = subst (λ (m : Node). fits writer m v ≡ true) is (subst (λ (ns : List Node). fits ns (Node.record_of name aliases fs) v ≡ true) are fit_whole) in
      let there = arrived_record writer reader wn r.0 branch b.0 good.arrives name aliases fs is in
      let fit_there = subst (λ (m : Node). fits reader m u ≡ true) there.2 (fits_there writer reader formed wn r.0 branch b.0 v u fit_here whole good.arrives.into) in
      subst (MadeAs (of_node SN reader r.0) made) (sym (whole ∙ wrapped_ok branch u)) (law r.0 good.found there.0 there.1 good.arrives.into there.2 fit_there good.stands good.starts)

  pub faulty_record : (at : At) (fault : Box Fault) → FieldsStandAs S T writer reader nodes fs at (Slots.Faulty fault) vs
      → StandsAs S writer reader nodes (Node.record_of name aliases fs) at (Made.Faulty fault) (Value.record_of (values_from vs))
  faulty_record Ignored fault h = absurd h
  faulty_record (Pair w r) fault h = λ are is.
      subst (λ (xs : List Value). resolve writer reader (node_at writer w.0) (node_at reader r.0) (Value.record_of (values_from xs)) ≡ Err (turned fault.value)) (append-nil vs)
      (h are (sym (ap fields_at is)) [])
