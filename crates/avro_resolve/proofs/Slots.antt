-- What stands in the slots of a record.
use Rattle.std.proofs.Common.{◌≡◌, ℕ, ◌+◌, ◌<◌, ◌≤◌, true, List, [], ◌∷◌, ◌++◌, drop, length, length-append, Option, Some, None, refl, sym, ap, ◌∙◌, subst, arith, ⊎_elim}
use Rattle.std.specs.Prelude.{slice_index_or, slice_get, unwrap_or, map, bytes_eq, cond, ◌==◌}
use Rattle.std.specs.List.{flat_map}
use Rattle.std.proofs.lemmas.Bool.{cases_lt, cases_eq, cond-true, cond-false, eq-eqb, ne_eqb}
use Rattle.std.proofs.lemmas.List.{append-nil, append_assoc, length-map, length-drop}
use Rattle.std.proofs.Math.ListN.{drop_of_length-le}
use Rattle.avro_schema.specs.Distinct.{are_distinct}
use Rattle.avro_schema.specs.WellFormed.{field_names}
use Rattle.avro_schema.specs.Value.{Value, value}
use Rattle.avro_schema.specs.Node.{FieldNode, field_ids}
use Rattle.avro_schema.specs.Seen.{values_from, seen_fields, field_of}
use Rattle.avro_schema.specs.declared.schema.Field.{Field}
use Rattle.avro_schema.specs.declared.schema.NodeId.{NodeId}
use Rattle.avro_compare.specs.Pairs.{field_for, part_to}
use Rattle.avro_compare.specs.Source.{reader_field, source_of}
use Rattle.avro_compare.specs.declared.comparison.At.{At}
use Rattle.avro_compare.specs.declared.comparison.At.TheVariants.{Pair}
use Rattle.avro_compare.specs.Resolve.{Sourced, sourced_at, field_value, field_values}
use Rattle.avro_compare.specs.Fields.{IsField, here, later}
use Rattle.avro_resolve.specs.Ends.{Slotted, SlotsAre, SlotsFor, slot_out, AllBelow}
use Rattle.avro_compare.proofs.public.Lists.{seen_next, get_past, get_before, get_last}
use Rattle.avro_resolve.proofs.Flagging.{id_there}
use Rattle.avro_compare.proofs.public.Sources.{is_index-same, two_readers, are_distinct-back, reader_field-source}

-- ---- What a field takes

slotted_out : {O : Type 0} (S : O → Value → Type 0) (o : Option (Option O)) (out : O) (v : Value) → slot_out o ≡ Some out → Slotted S o v → S out v
slotted_out {O = O} S (Some (Some x)) out v e h = let same : x ≡ out = cc in subst (λ (y : O). S y v) same h
slotted_out S (Some None) out v e h = absurd cc
slotted_out S None out v e h = absurd cc

slotted_none : {O : Type 0} (S : O → Value → Type 0) (o : Option (Option O)) (v : Value) → slot_out o ≡ None → Slotted S o v → v ≡ Value.null
slotted_none S (Some (Some x)) v e h = absurd cc
slotted_none S (Some None) v e h = h
slotted_none S None v e h = h

module _ {O : Type 0} (S : ℕ → O → Value → Type 0) (ws : List FieldNode) (found : Sourced) (f : FieldNode) (rest : List FieldNode) where
  pub rest_kept : (index : ℕ) (old new : List (Option O)) → source_of ws f ≡ Some index → are_distinct bytes_eq (field_names f ++ flat_map field_names rest) ≡ true
      → ((k : ℕ) → (k ≡ index → ⊥) → slice_get new k ≡ slice_get old k) → SlotsFor S ws (f ∷ rest) found old → SlotsFor S ws rest found new
  rest_kept index old new e distinct others h = λ g is k src.
      subst (λ (o : Option (Option O)). Slotted (S g.node) o (sourced_at found k)) (sym (others k (apart g is k src))) (h g (later is) k src)
    where
      apart : (g : FieldNode) → IsField g rest → (k : ℕ) → source_of ws g ≡ Some k → k ≡ index → ⊥
      apart g is k src same =
          two_readers ws rest k f g is distinct src (is_index-same (source_of ws f) k (subst (λ (j : ℕ). source_of ws f ≡ Some j) (sym same) e))

  pub rest_same : (slots : List (Option O)) → SlotsFor S ws (f ∷ rest) found slots → SlotsFor S ws rest found slots
  rest_same slots h = λ g is k src. h g (later is) k src

  value_sourced : (index : ℕ) → source_of ws f ≡ Some index → field_value ws found f ≡ sourced_at found index
  value_sourced index e = rw e refl

  pub value_default : (d : Option Value) → source_of ws f ≡ None → f.default ≡ d → field_value ws found f ≡ unwrap_or d Value.null
  value_default d e is = rw (e, is) refl

  pub value_held : (index : ℕ) (slots : List (Option O)) (out : O) → source_of ws f ≡ Some index → slot_out (slice_get slots index) ≡ Some out
      → SlotsFor S ws (f ∷ rest) found slots → S f.node out (field_value ws found f)
  value_held index slots out e held h =
      subst (S f.node out) (sym (value_sourced index e)) (slotted_out (S f.node) (slice_get slots index) out (sourced_at found index) held (h f here index e))

  pub value_missing : (index : ℕ) (slots : List (Option O)) → source_of ws f ≡ Some index → slot_out (slice_get slots index) ≡ None
      → SlotsFor S ws (f ∷ rest) found slots → field_value ws found f ≡ Value.null
  value_missing index slots e held h = value_sourced index e ∙ slotted_none (S f.node) (slice_get slots index) (sourced_at found index) held (h f here index e)

-- ---- The reader's fields in order

pub values_seen : (ws rs : List FieldNode) (found : Sourced) → field_values ws found rs ≡ values_from (map (field_value ws found) rs)
values_seen ws [] found = refl
values_seen ws (f ∷ fs) found = ap (value (field_value ws found f)) (values_seen ws fs found)

-- so many values are of the fields before
counted_before : (us : List Value) (worth : FieldNode → Value) (fs all : List FieldNode) → us ++ map worth fs ≡ map worth all → length us + length fs ≡ length all
counted_before us worth fs all e =
    let whole : length (us ++ map worth fs) ≡ length (map worth all) = ap length e in
    omega (arith, whole, length-append us (map worth fs), length-map fs worth, length-map all worth)

next_counted : (reads : List Field) (i n : ℕ) → i < length reads → n + length (seen_fields (drop i reads)) ≡ length (seen_fields reads) → n ≡ i
next_counted reads i n low e =
    let left : length (seen_fields (drop i reads)) ≡ length (drop i reads) = length-map (drop i reads) field_of in
    let whole : length (seen_fields reads) ≡ length reads = length-map reads field_of in
    omega (arith, low, e, left, whole, length-drop i reads)

-- what was made of the fields so far, before those that are left
abbrev pub ValuesSoFar : {F : Type 0} → (F → List Value → Type 0) → List FieldNode → Sourced → List Field → F → List FieldNode → Type 0
ValuesSoFar T ws found reads made fs = (us : List Value) × T made us × (us ++ map (field_value ws found) fs ≡ map (field_value ws found) (seen_fields reads))

module _ (ws : List FieldNode) (reads : List Field) (i : ℕ) (f : Field) (low : i < length reads) (is : f ≡ slice_index_or reads i f) where
  field_next : seen_fields (drop i reads) ≡ field_of f ∷ seen_fields (drop (i + 1) reads)
  field_next = seen_next reads i f low ∙ ap (λ (g : Field). field_of g ∷ seen_fields (drop (i + 1) reads)) (sym is)

  pub distinct_here : are_distinct bytes_eq (flat_map field_names (seen_fields (drop i reads))) ≡ true
      → are_distinct bytes_eq (field_names (field_of f) ++ flat_map field_names (seen_fields (drop (i + 1) reads))) ≡ true
  distinct_here h = subst (λ (fs : List FieldNode). are_distinct bytes_eq (flat_map field_names fs) ≡ true) field_next h

  pub distinct_after : are_distinct bytes_eq (flat_map field_names (seen_fields (drop i reads))) ≡ true → are_distinct bytes_eq (flat_map field_names (seen_fields (drop (i + 1) reads))) ≡ true
  distinct_after h = are_distinct-back (field_names (field_of f)) (flat_map field_names (seen_fields (drop (i + 1) reads))) (distinct_here h)

  module _ {O : Type 0} (S : ℕ → O → Value → Type 0) (found : Sourced) where
    pub slots_here : (slots : List (Option O)) → SlotsFor S ws (seen_fields (drop i reads)) found slots → SlotsFor S ws (field_of f ∷ seen_fields (drop (i + 1) reads)) found slots
    slots_here slots h = subst (λ (fs : List FieldNode). SlotsFor S ws fs found slots) field_next h

  module _ {F : Type 0} (T U : F → List Value → Type 0) (found : Sourced) where
    pub values_more : (made new : F) → ((us : List Value) → slice_get (field_ids (seen_fields reads)) (length us) ≡ Some f.node.0 → T made us → U new (us ++ field_value ws found (field_of f) ∷ []))
        → ValuesSoFar T ws found reads made (seen_fields (drop i reads)) → ValuesSoFar U ws found reads new (seen_fields (drop (i + 1) reads))
    values_more made new law h =
        let x = field_value ws found (field_of f) in
        let counted : length h.0 ≡ i = next_counted reads i (length h.0) low (counted_before h.0 (field_value ws found) (seen_fields (drop i reads)) (seen_fields reads) h.2) in
        let rest = map (field_value ws found) (seen_fields (drop (i + 1) reads)) in (
          h.0 ++ x ∷ [],
          law h.0 (subst (λ (k : ℕ). slice_get (field_ids (seen_fields reads)) k ≡ Some f.node.0) (sym counted) (id_there reads i f low is)) h.1,
          append_assoc h.0 (x ∷ []) rest ∙ ap (λ (fs : List FieldNode). h.0 ++ map (field_value ws found) fs) (sym field_next) ∙ h.2,
        )

module _ {F : Type 0} (T : F → List Value → Type 0) (ws : List FieldNode) (found : Sourced) (reads : List Field) where
  pub no_values_yet : (made : F) → T made [] → ValuesSoFar T ws found reads made (seen_fields reads)
  no_values_yet made none = ([], none, refl)

  pub values_all : (i : ℕ) (made : F) → length reads ≤ i → ValuesSoFar T ws found reads made (seen_fields (drop i reads)) → T made (map (field_value ws found) (seen_fields reads))
  values_all i made high h =
      subst (T made)
      (sym (append-nil h.0) ∙ ap (λ (fs : List Field). h.0 ++ map (field_value ws found) (seen_fields fs)) (sym (drop_of_length-le reads high)) ∙ h.2) h.1

-- ---- Slots that are kept in the writer's order

raised : (m k : ℕ) → k < m → k < m + 1
raised m k low = omega (arith, low)

pub below_more : (m : ℕ) (found : Sourced) → AllBelow m found → AllBelow (m + 1) found
below_more m [] h = tt
below_more m (s ∷ ss) h = (raised m s.0 h.0, below_more m ss h.1)

pub below_last : (m : ℕ) (found : Sourced) (u : Value) → AllBelow m found → AllBelow (m + 1) (found ++ (m, u) ∷ [])
below_last m [] u h = (omega arith, tt)
below_last m (s ∷ ss) u h = (raised m s.0 h.0, below_last m ss u h.1)

pub none_above : (m k : ℕ) (found : Sourced) → AllBelow m found → m ≤ k → sourced_at found k ≡ Value.null
none_above m k [] h high = refl
none_above m k (s ∷ ss) h high = cond-false (s.0 == k) s.1 (sourced_at ss k) (ne_eqb s.0 k (λ e. apart s.0 h.0 e)) ∙ none_above m k ss h.1 high
  where
    apart : (j : ℕ) → j < m → j ≡ k → ⊥
    apart j low e = omega (arith, low, e, high)

others_same : (found : Sourced) (k m : ℕ) (u : Value) → (k ≡ m → ⊥) → sourced_at (found ++ (m, u) ∷ []) k ≡ sourced_at found k
others_same [] k m u apart = cond-false (m == k) u Value.null (ne_eqb m k (λ e. apart (sym e)))
others_same (s ∷ ss) k m u apart = ap (cond (s.0 == k) s.1) (others_same ss k m u apart)

last_is : (found : Sourced) (m : ℕ) (u : Value) → AllBelow m found → sourced_at (found ++ (m, u) ∷ []) m ≡ u
last_is [] m u below = cond-true (m == m) u Value.null (eq-eqb m m refl)
last_is (s ∷ ss) m u below = cond-false (s.0 == m) s.1 (sourced_at (ss ++ (m, u) ∷ []) m) (ne_eqb s.0 m (λ e. lower s.0 m e below.0)) ∙ last_is ss m u below.1
  where
    lower : (a b : ℕ) → a ≡ b → a < b → ⊥
    lower a b e h = omega (arith, e, h)

-- the node of a part is the reader's field's
pair_to : (a b w r : NodeId) → ◌≡◌ {A = At} (Pair a b) (Pair w r) → b ≡ r
pair_to a b w r e = cc

field_node : (j : ℕ) (o : Option FieldNode) (f : FieldNode) (w r : NodeId) → o ≡ Some f → part_to j o ≡ Pair w r → f.node ≡ r.0
field_node j None f w r is e = absurd cc
field_node j (Some g) f w r is e =
    let same : g ≡ f = cc in
    ap (λ (h : FieldNode). h.node) (sym same) ∙ ap (λ (n : NodeId). n.0) (pair_to (record { 0 = j }) (record { 0 = g.node }) w r e)

module _ {O : Type 0} (S : ℕ → O → Value → Type 0) (ws rs : List FieldNode) where
  -- before any, whatever is found
  pub no_slots_yet : SlotsAre S ws rs [] []
  no_slots_yet k w r is = refl

  -- of the reader's fields, where their names are distinct
  pub slots_for : (found : Sourced) (slots : List (Option O)) → are_distinct bytes_eq (flat_map field_names rs) ≡ true → SlotsAre S ws rs found slots → SlotsFor S ws rs found slots
  slots_for found slots distinct h = λ g is k src.
      let got = reader_field-source ws rs k g is distinct src in
      let j = unwrap_or (slice_get (field_ids ws) k) 0 in
      subst (λ (id : ℕ). Slotted (S id) (slice_get slots k) (sourced_at found k)) got.2
      (h k (record { 0 = j }) (record { 0 = got.0.node }) (ap (part_to j) got.1))

  module _ (found : Sourced) (slots : List (Option O)) (m : ℕ) (count : length slots ≡ m) (below : AllBelow m found) (so_far : SlotsAre S ws rs found slots) where
    by_index : (found' : Sourced) (o : Option O) → ((k : ℕ) → (k ≡ m → ⊥) → sourced_at found' k ≡ sourced_at found k)
        → ((w r : NodeId) → field_for ws rs m ≡ Pair w r → Slotted (S r.0) (Some o) (sourced_at found' m)) → SlotsAre S ws rs found' (slots ++ o ∷ [])
    by_index found' o others this k w r is =
        ⊎_elim
        (λ low. subst (Slotted (S r.0) (slice_get (slots ++ o ∷ []) k)) (sym (others k (λ e. omega (arith, low, e, count))))
        (subst (λ (q : Option (Option O)). Slotted (S r.0) q (sourced_at found k)) (sym (get_before slots o k low)) (so_far k w r is)))
        (λ high. ⊎_elim (λ e. at_last k e is) (λ ne. past k (omega (arith, high, ne, count)) (λ e. ne (count ∙ sym e))) (cases_eq (length slots) k))
        (cases_lt k (length slots))
      where
        at_last : (k : ℕ) → length slots ≡ k → field_for ws rs k ≡ Pair w r → Slotted (S r.0) (slice_get (slots ++ o ∷ []) k) (sourced_at found' k)
        at_last k e to =
            subst (λ (j : ℕ). Slotted (S r.0) (slice_get (slots ++ o ∷ []) j) (sourced_at found' j)) e
            (subst (λ (q : Option (Option O)). Slotted (S r.0) q (sourced_at found' (length slots))) (sym (get_last slots o))
            (subst (λ (j : ℕ). Slotted (S r.0) (Some o) (sourced_at found' j)) (sym count)
            (this w r (subst (λ (j : ℕ). field_for ws rs j ≡ Pair w r) (sym e ∙ count) to))))

        past : (k : ℕ) → length slots < k → (k ≡ m → ⊥) → Slotted (S r.0) (slice_get (slots ++ o ∷ []) k) (sourced_at found' k)
        past k high apart =
            subst (λ (q : Option (Option O)). Slotted (S r.0) q (sourced_at found' k)) (sym (get_past slots o k high))
            (others k apart ∙ none_above m k found below (omega (arith, high, count)))

    pub slots_none : SlotsAre S ws rs found (slots ++ None ∷ [])
    slots_none = by_index found None (λ k apart. refl) (λ w r is. none_above m m found below (omega arith))

    pub slots_some : (f : FieldNode) (out : O) (u : Value) → reader_field ws rs m ≡ Some f → S f.node out u → SlotsAre S ws rs (found ++ (m, u) ∷ []) (slots ++ Some out ∷ [])
    slots_some f out u read h =
        by_index (found ++ (m, u) ∷ []) (Some out) (λ k apart. others_same found k m u apart)
        (λ w r is. subst (λ (id : ℕ). S id out (sourced_at (found ++ (m, u) ∷ []) m)) (field_node (unwrap_or (slice_get (field_ids ws) m) 0) (reader_field ws rs m) f w r read is)
        (subst (S f.node out) (sym (last_is found m u below)) h))
