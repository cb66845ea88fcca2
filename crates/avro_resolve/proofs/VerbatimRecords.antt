-- Records that are made from the encodings of their fields.
use Rattle.std.proofs.Common.{◌≡◌, ℕ, zero, suc, ◌+◌, Bool, true, false, cond, List, [], ◌∷◌, Option, Some, None, Ok, Result, refl, sym, ap, ◌∙◌, subst, arith}
use Rattle.std.specs.Prelude.{slice_get, unwrap_or, ◌==◌}
use Rattle.std.proofs.lemmas.Bool.{and_parts, false≢true, cond-true, cond-false, eq-eqb, eqb-true, ne_eqb}
use Rattle.avro_name.specs.Name.{Name}
use Rattle.avro_schema.specs.Value.{Value}
use Rattle.avro_schema.specs.Node.{Node, FieldNode, node_at, field_ids}
use Rattle.avro_schema.specs.Fits.{fits, fields_fit}
use Rattle.avro_schema.specs.WellFormed.{is_schema}
use Rattle.avro_schema.specs.Seen.{values_from}
use Rattle.avro_schema.specs.declared.schema.NodeId.{NodeId}
use Rattle.avro_schema.proofs.public.FitsKind.{FitsKind-from_fits}
use Rattle.avro_cursor.specs.Encoding.{plain}
use Rattle.avro_binary.specs.LeafValue.{has_no_parts}
use Rattle.avro_binary.specs.Pieces.{ArePieces, piece}
use Rattle.avro_binary.specs.declared.place.Place.{Place}
use Rattle.avro_compare.specs.Fields.{IsField, here, later}
use Rattle.avro_compare.specs.Resolve.{Resolved, Sourced, sourced_at, field_values, fields_at, with_sourced, both, inside, resolve, resolve_sources, record_or_missing, result_map}
use Rattle.avro_compare.specs.Source.{is_index, missing_field, reader_field, source_of}
use Rattle.avro_compare.specs.Fault.{ResolutionFault}
use Rattle.avro_compare.specs.declared.comparison.At.{At}
use Rattle.avro_compare.specs.declared.comparison.At.TheVariants.{Pair}
use Rattle.avro_compare.proofs.public.Sources.{is_index-same}
use Rattle.avro_resolve.specs.declared.resolving.guided.Made.{Made}
use Rattle.avro_resolve.specs.inside.Guided.{AreLeaves, MadeAs, StandsAs, of_node}
use Rattle.avro_resolve.specs.Copied.{AreCopied, ArePlain, IsVerbatim, is_as_written}
use Rattle.avro_resolve.proofs.Arriving.{arrived_record, fits_there, own_arrives}
use Rattle.avro_resolve.proofs.CopiedLeaves.{copied_spelling, copied_value}

-- ---- Values that fit some fields

pub empty_get : {A : Type 0} (k : ℕ) (x : A) → slice_get [] k ≡ Some x → ⊥
empty_get zero x e = cc
empty_get (suc k) x e = cc

-- there is a value for each field, and it fits
value_there : (nodes : List Node) (ids : List ℕ) (vs : List Value) (k id : ℕ) → fields_fit nodes ids (values_from vs) ≡ true → slice_get ids k ≡ Some id
    → (v : Value) × (slice_get vs k ≡ Some v) × (fits nodes (node_at nodes id) v ≡ true)
value_there nodes [] vs k id fit got = absurd (empty_get k id got)
value_there nodes (i ∷ ids) [] k id fit got = absurd (false≢true fit)
value_there nodes (i ∷ ids) (v ∷ vs) zero id fit got =
    let same : i ≡ id = cc in
    (v, refl, subst (λ (j : ℕ). fits nodes (node_at nodes j) v ≡ true) same (and_parts (fits nodes (node_at nodes i) v) (fields_fit nodes ids (values_from vs)) fit).0)
value_there nodes (i ∷ ids) (v ∷ vs) (suc k) id fit got =
    value_there nodes ids vs k id (and_parts (fits nodes (node_at nodes i) v) (fields_fit nodes ids (values_from vs)) fit).1 got

-- ---- The reader's field of a source

source_is : (o : Option ℕ) (k : ℕ) → is_index o k ≡ true → o ≡ Some k
source_is None k h = absurd (false≢true h)
source_is (Some j) k h = ap Some (eqb-true j k h)

-- it is one of the reader's fields, and has the source
reader_is : (ws rs : List FieldNode) (k : ℕ) (f : FieldNode) → reader_field ws rs k ≡ Some f → IsField f rs × (source_of ws f ≡ Some k)
reader_is ws [] k f e = absurd cc
reader_is ws (g ∷ gs) k f e = step (is_index (source_of ws g) k) refl e (reader_is ws gs k f)
  where
    step : (t : Bool) → is_index (source_of ws g) k ≡ t → cond t (Some g) (reader_field ws gs k) ≡ Some f → (reader_field ws gs k ≡ Some f → IsField f gs × (source_of ws f ≡ Some k))
        → IsField f (g ∷ gs) × (source_of ws f ≡ Some k)
    step true m e more =
        let same : g ≡ f = cc in
        subst (λ (h : FieldNode). IsField h (g ∷ gs) × (source_of ws h ≡ Some k)) same (here, source_is (source_of ws g) k m)
    step false m e more = let found = more e in (later found.0, found.1)

-- and where a field has the source, there is one
reader_some : (ws rs : List FieldNode) (k : ℕ) (f : FieldNode) → IsField f rs → source_of ws f ≡ Some k → (g : FieldNode) × (reader_field ws rs k ≡ Some g)
reader_some ws rs k f (here {fs = fs}) src = (f, cond-true (is_index (source_of ws f) k) (Some f) (reader_field ws fs k) (is_index-same (source_of ws f) k src))
reader_some ws rs k f (later {g = g} {fs = fs} is) src = step (is_index (source_of ws g) k) (reader_some ws fs k f is src)
  where
    step : (t : Bool) → (h : FieldNode) × (reader_field ws fs k ≡ Some h) → (h : FieldNode) × (cond t (Some g) (reader_field ws fs k) ≡ Some h)
    step true more = (g, refl)
    step false more = more

-- ---- What is found of the writer's fields

module _ (writer reader : List Node) (ws rs : List FieldNode) where
  -- each value from an index on that some reader's field takes is resolved to one of the same plain encoding
  abbrev EachSame : ℕ → List Value → Type 0
  EachSame i vs = (j k : ℕ) (v : Value) → k ≡ i + j → slice_get vs j ≡ Some v → (f : FieldNode) → reader_field ws rs k ≡ Some f
      → (u : Value) × (resolve writer reader (node_at writer (unwrap_or (slice_get (field_ids ws) k) 0)) (node_at reader f.node) v ≡ Ok u) × (plain u ≡ plain v)

  -- and that is found
  abbrev FoundSame : ℕ → List Value → Sourced → Type 0
  FoundSame i vs found = (j k : ℕ) (v : Value) → k ≡ i + j → slice_get vs j ≡ Some v → (f : FieldNode) → reader_field ws rs k ≡ Some f → plain (sourced_at found k) ≡ plain v

  found_same : (vs : List Value) (i : ℕ) → EachSame i vs → (found : Sourced) × (resolve_sources writer reader ws rs i (values_from vs) ≡ Ok found) × FoundSame i vs found
  found_same [] i each = ([], refl, λ j k v e got f read. absurd (empty_get j v got))
  found_same (v ∷ vs) i each = step (reader_field ws rs i) refl (found_same vs (suc i) (λ j k u e got f read. each (suc j) k u (on j k e) got f read))
    where
      on : (j k : ℕ) → k ≡ suc i + j → k ≡ i + suc j
      on j k e = omega (arith, e)

      back : (j k : ℕ) → k ≡ i + suc j → k ≡ suc i + j
      back j k e = omega (arith, e)

      at_once : (k : ℕ) → k ≡ i + 0 → i ≡ k
      at_once k e = omega (arith, e)

      start : i ≡ i + 0
      start = omega arith

      apart : (j k : ℕ) → k ≡ i + suc j → i ≡ k → ⊥
      apart j k e f = omega (arith, e, f)

      value_for : FieldNode → Resolved
      value_for f = resolve writer reader (node_at writer (unwrap_or (slice_get (field_ids ws) i) 0)) (node_at reader f.node) v

      others : Result Sourced ResolutionFault
      others = resolve_sources writer reader ws rs (suc i) (values_from vs)

      none_here : reader_field ws rs i ≡ None → (found : Sourced) → FoundSame (suc i) vs found → FoundSame i (v ∷ vs) found
      none_here e found more zero k u same got f read = absurd (clash (subst (λ (x : ℕ). reader_field ws rs x ≡ None) (at_once k same) e) read)
        where
          clash : {o : Option FieldNode} → o ≡ None → o ≡ Some f → ⊥
          clash a b = cc
      none_here e found more (suc j) k u same got f read = more j k u (back j k same) got f read

      some_here : (x : Value) → plain x ≡ plain v → (found : Sourced) → FoundSame (suc i) vs found → FoundSame i (v ∷ vs) ((i, x) ∷ found)
      some_here x law found more zero k u same got f read =
          let one : v ≡ u = cc in
          ap plain (cond-true (i == k) x (sourced_at found k) (eq-eqb i k (at_once k same))) ∙ law ∙ ap plain one
      some_here x law found more (suc j) k u same got f read =
          ap plain (cond-false (i == k) x (sourced_at found k) (ne_eqb i k (apart j k same))) ∙ more j k u (back j k same) got f read

      step : (o : Option FieldNode) → reader_field ws rs i ≡ o → (found : Sourced) × (others ≡ Ok found) × FoundSame (suc i) vs found
          → (found : Sourced) × (with_sourced o i value_for others ≡ Ok found) × FoundSame i (v ∷ vs) found
      step None e rest = (rest.0, rest.1, none_here e rest.0 rest.2)
      step (Some f) e rest =
          let got = each 0 i v start refl f e in (
            (i, got.0) ∷ rest.0,
            ap (λ (q : Resolved). both (λ x more. (i, x) ∷ more) (inside i q) others) got.1
                ∙ ap (λ (q : Result Sourced ResolutionFault). both (λ x more. (i, x) ∷ more) (Ok got.0) q) rest.1,
            some_here got.0 got.2 rest.0 rest.2,
          )

  module _ (vs : List Value) (bytes ends : List ℕ) (fit : fields_fit writer (field_ids ws) (values_from vs) ≡ true) (spelled : ArePieces vs bytes ends) (copied : AreCopied writer reader ws rs) where
    each_same : EachSame 0 vs
    each_same j k v e got f read =
        let is = reader_is ws rs k f read in
        let c = copied f is.0 k is.1 in
        let there = value_there writer (field_ids ws) vs k c.0 fit c.1 in
        let same : there.0 ≡ v = one there.1 (subst (λ (x : ℕ). slice_get vs x ≡ Some v) (at j k e) got) in
        let kind = FitsKind-from_fits writer (node_at writer c.0) v (subst (λ (u : Value). fits writer (node_at writer c.0) u ≡ true) same there.2) in
        subst (λ (o : Option ℕ). (u : Value) × (resolve writer reader (node_at writer (unwrap_or o 0)) (node_at reader f.node) v ≡ Ok u) × (plain u ≡ plain v)) (sym c.1)
        (copied_value writer (node_at writer c.0) (node_at reader f.node) c.2.kinds reader v c.2 kind)
      where
        at : (j k : ℕ) → k ≡ 0 + j → j ≡ k
        at j k e = omega (arith, e)

        one : {o : Option Value} {x y : Value} → o ≡ Some x → o ≡ Some y → x ≡ y
        one a b = cc

    pub verbatim_found : (found : Sourced) × (resolve_sources writer reader ws rs 0 (values_from vs) ≡ Ok found) × ArePlain reader ws rs found bytes ends
    verbatim_found =
        let all = found_same vs 0 each_same in (
          all.0,
          all.1,
          λ f is k src short.
              let c = copied f is k src in
              let there = value_there writer (field_ids ws) vs k c.0 fit c.1 in
              let other = reader_some ws rs k f is src in
              all.2 k k there.0 (itself k) there.1 other.0 other.1
              ∙ sym (copied_spelling writer (node_at writer c.0) (node_at reader f.node) c.2.kinds there.0 (piece bytes ends k)
              (FitsKind-from_fits writer (node_at writer c.0) there.0 there.2) (spelled k there.0 there.1) short),
        )
      where
        itself : (k : ℕ) → k ≡ 0 + k
        itself k = omega arith

-- ---- Leaves

not_array : (n : Node) (id : ℕ) → is_as_written n (Node.array id) ≡ true → ⊥
not_array Node.null id h = false≢true h
not_array _ id h = false≢true h

not_map : (n : Node) (id : ℕ) → is_as_written n (Node.map_of id) ≡ true → ⊥
not_map Node.null id h = false≢true h
not_map _ id h = false≢true h

not_union : (n : Node) (ids : List ℕ) → is_as_written n (Node.union ids) ≡ true → ⊥
not_union Node.null ids h = false≢true h
not_union _ ids h = false≢true h

not_record : (n : Node) (name : Name) (aliases : List Name) (fs : List FieldNode) → is_as_written n (Node.record_of name aliases fs) ≡ true → ⊥
not_record Node.null name aliases fs h = false≢true h
not_record _ name aliases fs h = false≢true h

-- a node that a leaf's encoding is copied for is a leaf's
no_parts : (n m : Node) → is_as_written n m ≡ true → has_no_parts m ≡ true
no_parts n (Node.array id) h = absurd (not_array n id h)
no_parts n (Node.map_of id) h = absurd (not_map n id h)
no_parts n (Node.union ids) h = absurd (not_union n ids h)
no_parts n (Node.record_of name aliases fs) h = absurd (not_record n name aliases fs h)
no_parts n _ h = refl

copied_leaves : (writer reader : List Node) (ws rs : List FieldNode) → AreCopied writer reader ws rs → AreLeaves reader ws rs
copied_leaves writer reader ws rs copied = λ f is k src.
    let c = copied f is k src in
    no_parts (node_at writer c.0) (node_at reader f.node) c.2.kinds

-- a record that is made of what was found
pub verbatim_record : {O : Type 0} (S : List Node → Node → Place → O → Value → Type 0) (writer reader nodes : List Node) (name : Name) (aliases : List Name) (fs : List FieldNode) (vs : List Value) (bytes ends : List ℕ) (at : At) (w r : NodeId) (out : O)
    → is_schema reader ≡ true → at ≡ Pair w r → IsVerbatim writer reader w r → ArePieces vs bytes ends → fields_fit nodes (field_ids fs) (values_from vs) ≡ true
    → ((found : Sourced) (own : Name) (others : List Name) → node_at reader r.0 ≡ Node.record_of own others (fields_at (node_at reader r.0))
    → fields_fit reader (field_ids (fields_at (node_at reader r.0))) (field_values (fields_at (node_at writer w.0)) found (fields_at (node_at reader r.0))) ≡ true
    → ArePlain reader (fields_at (node_at writer w.0)) (fields_at (node_at reader r.0)) found bytes ends → AreLeaves reader (fields_at (node_at writer w.0)) (fields_at (node_at reader r.0))
    → of_node S reader r.0 out (Value.record_of (field_values (fields_at (node_at writer w.0)) found (fields_at (node_at reader r.0)))))
    → StandsAs S writer reader nodes (Node.record_of name aliases fs) at (Made.Good out) (Value.record_of (values_from vs))
verbatim_record S writer reader nodes name aliases fs vs bytes ends at w r out formed pair verbatim spelled fit law =
    subst (λ (x : At). StandsAs S writer reader nodes (Node.record_of name aliases fs) x (Made.Good out) (Value.record_of (values_from vs))) (sym pair) (λ are is.
    let wn = node_at writer w.0 in
    let rn = node_at reader r.0 in
    let ws = fields_at wn in
    let rs = fields_at rn in
    let v = Value.record_of (values_from vs) in
    let fit_whole : fits nodes (Node.record_of name aliases fs) v ≡ true = fit in
    let fit_writer = subst (λ (ns : List Node). fits ns (Node.record_of name aliases fs) v ≡ true) are fit_whole in
    let fit_node = subst (λ (m : Node). fits writer m v ≡ true) is fit_writer in
    let fit_here = subst (λ (gs : List FieldNode). fields_fit writer (field_ids gs) (values_from vs) ≡ true) (ap fields_at is) fit_writer in
    let found = verbatim_found writer reader ws rs vs bytes ends fit_here spelled verbatim.copied in
    let u = Value.record_of (field_values ws found.0 rs) in
    let resolves = verbatim.leads (λ q. record_or_missing ws (fields_at q) (missing_field ws (fields_at q)) (resolve_sources writer reader ws (fields_at q) 0 (values_from vs)))
    ∙ ap (λ (o : Option ℕ). record_or_missing ws rs o (resolve_sources writer reader ws rs 0 (values_from vs))) verbatim.complete
    ∙ ap (λ (q : Result Sourced ResolutionFault). result_map (λ x. Value.record_of (field_values ws x rs)) q) found.1 in
    let there = arrived_record writer reader wn r.0 None r.0 (own_arrives writer reader wn r verbatim.leads) name aliases fs is in
    let fit_there = subst (λ (m : Node). fits reader m u ≡ true) there.2 (fits_there writer reader formed wn r.0 None r.0 v u fit_node resolves refl) in
    subst (MadeAs (of_node S reader r.0) (Made.Good out)) (sym resolves) (law found.0 there.0 there.1 there.2 fit_there found.2 (copied_leaves writer reader ws rs verbatim.copied)))
