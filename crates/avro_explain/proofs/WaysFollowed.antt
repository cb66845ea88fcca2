-- The ways that steps from pair to pair are in each of two schemas.
use Rattle.std.proofs.Common.{◌≡◌, ◌<◌, ◌∙◌, ℕ, zero, suc, ◌+◌, List, [], ◌∷◌, ◌++◌, Option, Some, None, length, refl, sym, ap, subst, append_assoc, append-nil, arith, slice_get, unwrap_or, option_and_then, reverse, bytes_eq}
use Rattle.std.proofs.lemmas.List.{reverse-append, length-map}
use Rattle.std.proofs.lemmas.List.Quantifiers.{position-Some}
use Rattle.std.proofs.lemmas.Option.{slice_get-get_or, unwrap_or-slice_get}
use Rattle.avro_schema.specs.Node.{Node, FieldNode, node_at, field_ids, branches_of}
use Rattle.avro_compare.specs.Match.{first_match}
use Rattle.avro_compare.specs.Source.{field_index, first_index, or_else, source_of}
use Rattle.avro_compare.proofs.public.NodeKinds.{union_of_branches}
use Rattle.avro_certificate.proofs.public.Shapes.{first_match_within}
use Rattle.avro_compare.specs.Leads.{lead_by, branch_leads, choice_leads, field_lead, field_leads, leads_inside, leads_of}
use Rattle.avro_explain.specs.Places.{ArePlaced, IsLed, came}
use Rattle.avro_explain.specs.Ways.{step_from, follow, writer_steps, reader_steps, IsWayTo}
use Rattle.avro_compare.specs.declared.comparison.Lead.{Lead}
use Rattle.avro_explain.specs.declared.found.PathStep.{PathStep}
use Rattle.avro_explain.specs.declared.found.Place.{Place}
use Rattle.avro_compare.specs.declared.comparison.Step.{Step}
use Rattle.avro_least.proofs.public.Keys.{some_same}

-- each lead of some
abbrev EachLead : (Lead → Type 0) → List Lead → Type 0
EachLead P leads = (j : ℕ) (lead : Lead) → slice_get leads j ≡ Some lead → P lead

each_none : (P : Lead → Type 0) → EachLead P []
each_none P j lead h = absurd (grind arith)

each_next : (P : Lead → Type 0) (first : Lead) (leads : List Lead) → P first → EachLead P leads → EachLead P (first ∷ leads)
each_next P first leads h each zero lead got = subst P (some_same first lead got) h
each_next P first leads h each (suc j) lead got = each j lead got

-- a source is a field's index
field_within : (fields : List FieldNode) (name : List ℕ) (s : ℕ) → field_index fields name ≡ Some s → s < length fields
field_within [] name s h = (position-Some {X = FieldNode} (λ f. bytes_eq f.name name) [] s (record { name = []; aliases = []; node = 0; default = None }) h).0
field_within (f ∷ fs) name s h = (position-Some {X = FieldNode} (λ g. bytes_eq g.name name) (f ∷ fs) s f h).0

pub first_within : (fields : List FieldNode) (names : List (List ℕ)) (s : ℕ) → first_index fields names ≡ Some s → s < length fields
first_within fields [] s h = absurd (grind arith)
first_within fields (name ∷ names) s h = chosen (field_index fields name) refl h (first_within fields names s)
  where
    chosen : (o : Option ℕ) → field_index fields name ≡ o → or_else o (first_index fields names) ≡ Some s → (first_index fields names ≡ Some s → s < length fields)
        → s < length fields
    chosen None e f later = later f
    chosen (Some k) e f later = field_within fields name s (e ∙ f)

pub there : (ids : List ℕ) (k : ℕ) → k < length ids → slice_get ids k ≡ Some (unwrap_or (slice_get ids k) 0)
there ids k h = slice_get-get_or ids k 0 h ∙ ap Some (sym (unwrap_or-slice_get ids k 0))

none_more : (j : ℕ) → 0 + j ≡ j
none_more j = omega arith

start : (k : ℕ) → k + 0 ≡ k
start k = omega arith

later : (k j : ℕ) → k + suc j ≡ suc k + j
later k j = omega arith

-- the fields of a node, as steps
abbrev StepsByFields : Node → List FieldNode → Type 0
StepsByFields m fields = (k : ℕ) → step_from m (PathStep.Field k) ≡ slice_get (field_ids fields) k

module _ (writer reader : List Node) (w r : ℕ) (n q : Node) (from : node_at writer w ≡ n) (to : node_at reader r ≡ q) where
  -- the steps of a lead are ways from the two nodes to those of the lead
  pub record IsStepOf (lead : Lead) : Type 0 where
    pub in_writer : follow writer w (writer_steps lead.step) ≡ Some lead.w.0
    pub in_reader : follow reader r (reader_steps lead.step) ≡ Some lead.r.0

  one_step : (nodes : List Node) (id : ℕ) (m : Node) (s : PathStep) (x : ℕ) → node_at nodes id ≡ m → step_from m s ≡ Some x → follow nodes id (s ∷ []) ≡ Some x
  one_step nodes id m s x e h =
      ap (λ (k : Node). option_and_then (λ next. follow nodes next []) (step_from k s)) e ∙ ap (λ (o : Option ℕ). option_and_then (λ next. follow nodes next []) o) h

  branches_step : (all ids : List ℕ) (index : ℕ) → n ≡ Node.union all → ((j : ℕ) → slice_get all (index + j) ≡ slice_get ids j) → EachLead IsStepOf (branch_leads index r ids)
  branches_step all [] index is same = each_none IsStepOf
  branches_step all (id ∷ ids) index is same = each_next IsStepOf (lead_by (Step.Branch index) id r) (branch_leads (suc index) r ids)
      (record {
        in_writer = one_step writer w (Node.union all) (PathStep.Branch index) id (from ∙ is) (subst (λ (k : ℕ). slice_get all k ≡ Some id) (start index) (same 0));
        in_reader = refl;
      })
      (branches_step all ids (suc index) is (λ j. subst (λ (k : ℕ). slice_get all k ≡ slice_get ids j) (later index j) (same (suc j))))

  choice_step : (ids : List ℕ) (o : Option ℕ) → q ≡ Node.union ids → first_match writer reader n ids ≡ o → EachLead IsStepOf (choice_leads w ids o)
  choice_step ids None is e = each_none IsStepOf
  choice_step ids (Some k) is e = each_next IsStepOf (lead_by (Step.Choice k) w (unwrap_or (slice_get ids k) 0)) []
      (record {
        in_writer = refl;
        in_reader =
            let found = first_match_within writer reader n ids k e in
            one_step reader r (Node.union ids) (PathStep.Branch k) (unwrap_or (slice_get ids k) 0) (to ∙ is)
            (found.1 ∙ ap (λ (x : Option ℕ). Some (unwrap_or x 0)) (sym found.1));
      })
      (each_none IsStepOf)

  fields_step : (all fields theirs : List FieldNode) (index : ℕ) → StepsByFields n fields → StepsByFields q all
      → ((j : ℕ) → slice_get (field_ids all) (index + j) ≡ slice_get (field_ids theirs) j) → EachLead IsStepOf (field_leads index fields theirs)
  fields_step all fields [] index is are same = each_none IsStepOf
  fields_step all fields (f ∷ theirs) index is are same = chosen (source_of fields f) refl
      (fields_step all fields theirs (suc index) is are (λ j. subst (λ (k : ℕ). slice_get (field_ids all) k ≡ slice_get (field_ids theirs) j) (later index j) (same (suc j))))
    where
      chosen : (o : Option ℕ) → source_of fields f ≡ o → EachLead IsStepOf (field_leads (suc index) fields theirs)
          → EachLead IsStepOf (field_lead index fields f o ++ field_leads (suc index) fields theirs)
      chosen None e rest = rest
      chosen (Some s) e rest = each_next IsStepOf (lead_by (Step.Field s index) (unwrap_or (slice_get (field_ids fields) s) 0) f.node) (field_leads (suc index) fields theirs)
          (record {
            in_writer = one_step writer w n (PathStep.Field s) (unwrap_or (slice_get (field_ids fields) s) 0) from
                (is s ∙ there (field_ids fields) s (omega (arith, first_within fields (f.name ∷ f.aliases) s e, length-map fields (λ g. g.node))));
            in_reader = one_step reader r q (PathStep.Field index) f.node to (are index ∙ subst (λ (k : ℕ). slice_get (field_ids all) k ≡ Some f.node) (start index) (same 0));
          })
          rest

  plain_step : (m p : Node) → n ≡ m → q ≡ p → EachLead IsStepOf (leads_inside m p)
  plain_step (Node.record_of a xs fields) (Node.record_of b ys theirs) is are =
      fields_step theirs fields theirs 0 (λ k. ap (λ (x : Node). step_from x (PathStep.Field k)) is) (λ k. ap (λ (x : Node). step_from x (PathStep.Field k)) are) (λ j. ap (slice_get (field_ids theirs)) (none_more j))
  plain_step (Node.array a) (Node.array b) is are = each_next IsStepOf (lead_by Step.Items a b) []
      (record { in_writer = one_step writer w (Node.array a) PathStep.Items a (from ∙ is) refl; in_reader = one_step reader r (Node.array b) PathStep.Items b (to ∙ are) refl })
      (each_none IsStepOf)
  plain_step (Node.map_of a) (Node.map_of b) is are = each_next IsStepOf (lead_by Step.Values a b) []
      (record { in_writer = one_step writer w (Node.map_of a) PathStep.Values a (from ∙ is) refl; in_reader = one_step reader r (Node.map_of b) PathStep.Values b (to ∙ are) refl })
      (each_none IsStepOf)
  plain_step _ _ is are = each_none IsStepOf

  leads_plain : (m p : Node) → branches_of m ≡ None → branches_of p ≡ None → leads_of writer reader w r m p ≡ leads_inside m p
  leads_plain (Node.union ids) _ h k = absurd (grind arith)
  leads_plain _ (Node.union ids) h k = absurd (grind arith)
  leads_plain _ _ h k = refl

  leads_choice : (m : Node) (ids : List ℕ) → branches_of m ≡ None → leads_of writer reader w r m (Node.union ids) ≡ choice_leads w ids (first_match writer reader m ids)
  leads_choice (Node.union ps) ids h = absurd (grind arith)
  leads_choice _ ids h = refl

  pub leads_step : EachLead IsStepOf (leads_of writer reader w r n q)
  leads_step = by_writer (branches_of n) refl
    where
      by_reader : branches_of n ≡ None → (o : Option (List ℕ)) → branches_of q ≡ o → EachLead IsStepOf (leads_of writer reader w r n q)
      by_reader plain None e = subst (λ (ls : List Lead). EachLead IsStepOf ls) (sym (leads_plain n q plain e)) (plain_step n q refl refl)
      by_reader plain (Some ids) e =
          let is : q ≡ Node.union ids = union_of_branches q ids e in
          subst (λ (m : Node). EachLead IsStepOf (leads_of writer reader w r n m)) (sym is)
          (subst (λ (ls : List Lead). EachLead IsStepOf ls) (sym (leads_choice n ids plain)) (choice_step ids (first_match writer reader n ids) is refl))

      by_writer : (o : Option (List ℕ)) → branches_of n ≡ o → EachLead IsStepOf (leads_of writer reader w r n q)
      by_writer None e = by_reader e (branches_of q) refl
      by_writer (Some ids) e =
          let is : n ≡ Node.union ids = union_of_branches n ids e in
          subst (λ (m : Node). EachLead IsStepOf (leads_of writer reader w r m q)) (sym is) (branches_step ids ids 0 is (λ j. ap (slice_get ids) (none_more j)))

-- steps and then more
pub follow_more : (nodes : List Node) (id x y : ℕ) (steps more : List PathStep) → follow nodes id steps ≡ Some x → follow nodes x more ≡ Some y
    → follow nodes id (steps ++ more) ≡ Some y
follow_more nodes id x y [] more h k = subst (λ (i : ℕ). follow nodes i more ≡ Some y) (sym (some_same id x h)) k
follow_more nodes id x y (s ∷ steps) more h k =
    chosen (step_from (node_at nodes id) s) refl h (λ next f. follow_more nodes next x y steps more f k)
  where
    chosen : (o : Option ℕ) → step_from (node_at nodes id) s ≡ o → option_and_then (λ next. follow nodes next steps) o ≡ Some x
        → ((next : ℕ) → follow nodes next steps ≡ Some x → follow nodes next (steps ++ more) ≡ Some y)
        → follow nodes id (s ∷ (steps ++ more)) ≡ Some y
    chosen None e f later = absurd (grind arith)
    chosen (Some next) e f later = ap (λ (o : Option ℕ). option_and_then (λ i. follow nodes i (steps ++ more)) o) e ∙ later next f

turned_writer : (s : Step) (done : List PathStep) → reverse (done ++ writer_steps s) ≡ writer_steps s ++ reverse done
turned_writer (Step.Branch k) done = reverse-append done (PathStep.Branch k ∷ [])
turned_writer s done = reverse-append done (writer_steps s)

turned_reader : (s : Step) (done : List PathStep) → reverse (done ++ reader_steps s) ≡ reader_steps s ++ reverse done
turned_reader (Step.Branch k) done = reverse-append done []
turned_reader s done = reverse-append done (reader_steps s)

-- the steps so far, the last first, lead from a place to the one that was asked for, and any two ways to that place go on by them
pub record IsWayFrom (writer reader : List Node) (places : List Place) (at here : ℕ) (p : Place) (in_writer in_reader : List PathStep) : Type 0 where
  pub place : Place
  pub there : slice_get places here ≡ Some place
  pub writer_way : follow writer place.w.0 (reverse in_writer) ≡ Some p.w.0
  pub reader_way : follow reader place.r.0 (reverse in_reader) ≡ Some p.r.0
  pub goes_on : (ws rs : List PathStep) → IsWayTo places here ws rs → IsWayTo places at (ws ++ reverse in_writer) (rs ++ reverse in_reader)

-- no steps yet
way_begun : (writer reader : List Node) (places : List Place) (at : ℕ) (p : Place) → slice_get places at ≡ Some p → IsWayFrom writer reader places at at p [] []
way_begun writer reader places at p got = record {
  place = p;
  there = got;
  writer_way = refl;
  reader_way = refl;
  goes_on = λ ws rs way. subst (λ (steps : List PathStep). IsWayTo places at steps (rs ++ [])) (sym (append-nil ws))
      (subst (λ (steps : List PathStep). IsWayTo places at ws steps) (sym (append-nil rs)) way);
}

pub way_none : (writer reader : List Node) (places : List Place) (at : ℕ) (p : Place) (in_writer in_reader : List PathStep) → slice_get places at ≡ Some p
    → in_writer ≡ [] → in_reader ≡ [] → IsWayFrom writer reader places at at p in_writer in_reader
way_none writer reader places at p in_writer in_reader got w r =
    subst (λ (steps : List PathStep). IsWayFrom writer reader places at at p steps in_reader) (sym w)
    (subst (λ (steps : List PathStep). IsWayFrom writer reader places at at p [] steps) (sym r) (way_begun writer reader places at p got))

-- a way, a step behind it, and the steps that follow
turned_behind : (way ones done turned : List PathStep) → turned ≡ ones ++ reverse done → way ++ turned ≡ (way ++ ones) ++ reverse done
turned_behind way ones done turned e = ap (λ (steps : List PathStep). way ++ steps) e ∙ sym (append_assoc way ones (reverse done))

way_more : (writer reader : List Node) (places : List Place) (at here : ℕ) (p : Place) (ws rs : List PathStep) (from : ℕ × Step)
    → IsWayFrom writer reader places at here p ws rs → ArePlaced writer reader places → ((q : Place) → slice_get places here ≡ Some q → q.from ≡ Some from)
    → IsWayFrom writer reader places at from.0 p (ws ++ writer_steps from.1) (rs ++ reader_steps from.1)
way_more writer reader places at here p ws rs from way placed is =
    let q = way.place in
    let led : IsLed writer reader places here q from = subst (λ (o : Option (ℕ × Step)). came writer reader places here q o) (is q way.there) (placed here q way.there) in
    let before : Place = led.place in
    let step = leads_step writer reader before.w.0 before.r.0 (node_at writer before.w.0) (node_at reader before.r.0) refl refl led.index (record { step = from.1; w = q.w; r = q.r }) led.leads in
    record {
      place = before;
      there = led.there;
      writer_way = ap (follow writer before.w.0) (turned_writer from.1 ws) ∙ follow_more writer before.w.0 q.w.0 p.w.0 (writer_steps from.1) (reverse ws) step.in_writer way.writer_way;
      reader_way = ap (follow reader before.r.0) (turned_reader from.1 rs) ∙ follow_more reader before.r.0 q.r.0 p.r.0 (reader_steps from.1) (reverse rs) step.in_reader way.reader_way;
      goes_on = λ front_ws front_rs before_way.
          subst (λ (steps : List PathStep). IsWayTo places at steps (front_rs ++ reverse (rs ++ reader_steps from.1)))
          (sym (turned_behind front_ws (writer_steps from.1) ws (reverse (ws ++ writer_steps from.1)) (turned_writer from.1 ws)))
          (subst (λ (steps : List PathStep). IsWayTo places at ((front_ws ++ writer_steps from.1) ++ reverse ws) steps)
          (sym (turned_behind front_rs (reader_steps from.1) rs (reverse (rs ++ reader_steps from.1)) (turned_reader from.1 rs)))
          (way.goes_on (front_ws ++ writer_steps from.1) (front_rs ++ reader_steps from.1)
          (IsWayTo.steps here q from front_ws front_rs (front_ws ++ writer_steps from.1) (front_rs ++ reader_steps from.1) way.there (is q way.there) led.before before_way refl refl)));
    }

-- the place that no other leads to is that of the roots
pub way_whole : (writer reader : List Node) (places : List Place) (at here : ℕ) (p : Place) (ws rs : List PathStep)
    → IsWayFrom writer reader places at here p ws rs → ArePlaced writer reader places
    → ((q : Place) → slice_get places here ≡ Some q → (from : ℕ × Step) → q.from ≡ Some from → from.0 < here → ⊥)
    → (follow writer 0 (reverse ws) ≡ Some p.w.0) × (follow reader 0 (reverse rs) ≡ Some p.r.0) × IsWayTo places at (reverse ws) (reverse rs)
way_whole writer reader places at here p ws rs way placed none = chosen way.place.from refl (placed here way.place way.there)
  where
    chosen : (o : Option (ℕ × Step)) → way.place.from ≡ o → came writer reader places here way.place o
        → (follow writer 0 (reverse ws) ≡ Some p.w.0) × (follow reader 0 (reverse rs) ≡ Some p.r.0) × IsWayTo places at (reverse ws) (reverse rs)
    chosen None e roots = (
      subst (λ (i : ℕ). follow writer i (reverse ws) ≡ Some p.w.0) roots.0 way.writer_way,
      subst (λ (i : ℕ). follow reader i (reverse rs) ≡ Some p.r.0) roots.1 way.reader_way,
      way.goes_on [] [] (IsWayTo.starts here way.place way.there e),
    )
    chosen (Some from) e led = absurd (none way.place way.there from e led.before)

-- one step more
pub way_next : (writer reader : List Node) (places : List Place) (at here : ℕ) (p : Place) (ws rs new_ws new_rs : List PathStep) (from : ℕ × Step)
    → IsWayFrom writer reader places at here p ws rs → ArePlaced writer reader places → ((q : Place) → slice_get places here ≡ Some q → q.from ≡ Some from)
    → new_ws ≡ ws ++ writer_steps from.1 → new_rs ≡ rs ++ reader_steps from.1 → IsWayFrom writer reader places at from.0 p new_ws new_rs
way_next writer reader places at here p ws rs new_ws new_rs from way placed is w r =
    subst (λ (steps : List PathStep). IsWayFrom writer reader places at from.0 p steps new_rs) (sym w)
    (subst (λ (steps : List PathStep). IsWayFrom writer reader places at from.0 p (ws ++ writer_steps from.1) steps) (sym r)
    (way_more writer reader places at here p ws rs from way placed is))
