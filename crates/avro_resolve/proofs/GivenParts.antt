-- Parts of a datum that fits its node, one by one.
use Rattle.std.proofs.Common.{◌≡◌, ℕ, zero, suc, ◌+◌, ◌<◌, ◌≤◌, true, List, [], ◌∷◌, ◌++◌, drop, length, map, Option, Some, Result, Ok, Err, refl, sym, ap, ◌∙◌, subst, arith}
use Rattle.std.specs.Prelude.{IfOk, false, slice_index_or, slice_get, String, unwrap_or}
use Rattle.std.specs.Global.{Box, Vec}
use Rattle.std.specs.declared.alloc.Global.{Global}
use Rattle.std.specs.declared.alloc.AllocError.{AllocError}
use Rattle.std.proofs.lemmas.Bool.{and_parts, false≢true}
use Rattle.std.proofs.lemmas.List.{append-nil, append_assoc}
use Rattle.std.proofs.Math.ListN.{drop_of_length-le}
use Rattle.avro_schema.specs.Value.{Entries, Value, Values, value, values_count}
use Rattle.avro_schema.specs.Node.{Node, node_at}
use Rattle.avro_schema.specs.Fits.{fits, each_fits, entries_fit, fields_fit, is_count}
use Rattle.avro_schema.specs.WellFormed.{meets_its_rules}
use Rattle.avro_schema.specs.Seen.{value_of, values_of, entries_of, pair_of, view_step}
use Rattle.avro_schema.specs.declared.datum.Datum.{Datum}
use Rattle.avro_schema.specs.declared.datum.Datum.TheOpen.{Datum-F}
use Rattle.avro_schema.specs.declared.datum.Datum.TheViews as view
use Rattle.avro_schema.specs.declared.datum.Datum.TheVariants as variants
use Rattle.avro_schema.specs.declared.datum.Datum.TheFolds.{fold-roll-Datum}
use Rattle.avro_schema.proofs.public.FitsParts.{MapFits-from_fits}
use Rattle.avro_binary.specs.Places.{is_union}
use Rattle.avro_compare.specs.Pairs.{value_id}
use Rattle.avro_compare.specs.Resolve.{branch_node}
use Rattle.avro_compare.proofs.public.Lists.{next_in}
use Rattle.avro_compare.proofs.public.Rules.{MeetRules}
use Rattle.avro_resolve.proofs.Arriving.{no_union}
use Rattle.avro_resolve.proofs.Branches.{plain-branch}

-- what a result stands for, by the same node and datum
pub stands_same : {O : Type 0} (S : Node → O → Value → Type 0) (n m : Node) (v u : Value) (result : Result O AllocError) → n ≡ m → v ≡ u
    → IfOk result (λ out. S m out u) → IfOk result (λ out. S n out v)
stands_same S n m v u (Err e) at_node same h = tt
stands_same S n m v u (Ok out) at_node same h = subst (λ (x : Value). S n out x) (sym same) (subst (λ (k : Node). S k out u) (sym at_node) h)

pub value_of-Array : (v : Vec Datum) → value_of (view.Array v) ≡ Value.array (values_of v.items)
value_of-Array v = ap value_of (sym (variants.rolls-Array v)) ∙ fold-roll-Datum Value view_step (Datum-F.Array v)

pub value_of-Record : (v : Vec Datum) → value_of (view.Record v) ≡ Value.record_of (values_of v.items)
value_of-Record v = ap value_of (sym (variants.rolls-Record v)) ∙ fold-roll-Datum Value view_step (Datum-F.Record v)

pub value_of-Union : (k : ℕ) (d : Box Datum) → value_of (view.Union k d) ≡ Value.union k (value_of d.value)
value_of-Union k d = ap value_of (sym (variants.rolls-Union k d)) ∙ fold-roll-Datum Value view_step (Datum-F.Union k d)

-- ---- Data in order

-- some data before those that are left
abbrev pub Before : List Value → List Datum → ℕ → Type 0
Before us items i = us ++ map value_of (drop i items) ≡ map value_of items

pub all_before : (us : List Value) (items : List Datum) (i : ℕ) → length items ≤ i → Before us items i → us ≡ map value_of items
all_before us items i high h = sym (append-nil us) ∙ ap (λ (ds : List Datum). us ++ map value_of ds) (sym (drop_of_length-le items high)) ∙ h

module _ (items : List Datum) (i : ℕ) (d : Datum) (low : i < length items) (is : d ≡ slice_index_or items i d) where
  datum_next : drop i items ≡ d ∷ drop (i + 1) items
  datum_next = next_in items i d low ∙ ap (λ (x : Datum). x ∷ drop (i + 1) items) (sym is)

  pub one_before : (us : List Value) → Before us items i → Before (us ++ value_of d ∷ []) items (i + 1)
  one_before us h = append_assoc us (value_of d ∷ []) (map value_of (drop (i + 1) items)) ∙ ap (λ (ds : List Datum). us ++ map value_of ds) (sym datum_next) ∙ h

  pub item_fits : (nodes : List Node) (n : Node) → each_fits nodes n (values_of (drop i items)) ≡ true
      → (fits nodes n (value_of d) ≡ true) × (each_fits nodes n (values_of (drop (i + 1) items)) ≡ true)
  item_fits nodes n h =
      and_parts (fits nodes n (value_of d)) (each_fits nodes n (values_of (drop (i + 1) items))) (subst (λ (ds : List Datum). each_fits nodes n (values_of ds) ≡ true) datum_next h)

  pub field_fits : (nodes : List Node) (ids : List ℕ) → fields_fit nodes (drop i ids) (values_of (drop i items)) ≡ true
      → (id : ℕ) × (slice_get ids i ≡ Some id) × (fits nodes (node_at nodes id) (value_of d) ≡ true) × (fields_fit nodes (drop (i + 1) ids) (values_of (drop (i + 1) items)) ≡ true)
  field_fits nodes ids h =
      let rest = values_of (drop (i + 1) items) in
      let here = first_fits ids i (subst (λ (ds : List Datum). fields_fit nodes (drop i ids) (values_of ds) ≡ true) datum_next h) in
      (here.0, here.1, here.2, subst (λ (k : ℕ). fields_fit nodes (drop k ids) rest ≡ true) (one i) here.3)
    where
      one : (i : ℕ) → suc i ≡ i + 1
      one i = omega arith

      first_fits : (ids : List ℕ) (k : ℕ) → fields_fit nodes (drop k ids) (value (value_of d) (values_of (drop (i + 1) items))) ≡ true
          → (id : ℕ) × (slice_get ids k ≡ Some id) × (fits nodes (node_at nodes id) (value_of d) ≡ true) × (fields_fit nodes (drop (suc k) ids) (values_of (drop (i + 1) items)) ≡ true)
      first_fits [] zero h = absurd (false≢true h)
      first_fits [] (suc k) h = absurd (false≢true h)
      first_fits (id ∷ ids) zero h =
          let both = and_parts (fits nodes (node_at nodes id) (value_of d)) (fields_fit nodes ids (values_of (drop (i + 1) items))) h in
          (id, refl, both.0, both.1)
      first_fits (id ∷ ids) (suc k) h = first_fits ids k h

-- ---- Entries in order

abbrev pub EntriesBefore : List (List ℕ × Value) → List (String Global × Datum) → ℕ → Type 0
EntriesBefore us entries i = us ++ map pair_of (drop i entries) ≡ map pair_of entries

pub all_entries_before : (us : List (List ℕ × Value)) (entries : List (String Global × Datum)) (i : ℕ) → length entries ≤ i → EntriesBefore us entries i → us ≡ map pair_of entries
all_entries_before us entries i high h = sym (append-nil us) ∙ ap (λ (es : List (String Global × Datum)). us ++ map pair_of es) (sym (drop_of_length-le entries high)) ∙ h

module _ (entries : List (String Global × Datum)) (i : ℕ) (e : String Global × Datum) (low : i < length entries) (is : e ≡ slice_index_or entries i e) where
  entry_next : drop i entries ≡ e ∷ drop (i + 1) entries
  entry_next = next_in entries i e low ∙ ap (λ (x : String Global × Datum). x ∷ drop (i + 1) entries) (sym is)

  pub one_entry_before : (us : List (List ℕ × Value)) → EntriesBefore us entries i → EntriesBefore (us ++ pair_of e ∷ []) entries (i + 1)
  one_entry_before us h = append_assoc us (pair_of e ∷ []) (map pair_of (drop (i + 1) entries)) ∙ ap (λ (es : List (String Global × Datum)). us ++ map pair_of es) (sym entry_next) ∙ h

  pub entry_fits : (nodes : List Node) (n : Node) → entries_fit nodes n (entries_of (drop i entries)) ≡ true
      → (fits nodes n (value_of e.1) ≡ true) × (entries_fit nodes n (entries_of (drop (i + 1) entries)) ≡ true)
  entry_fits nodes n h =
      and_parts (fits nodes n (value_of e.1)) (entries_fit nodes n (entries_of (drop (i + 1) entries)))
      (subst (λ (es : List (String Global × Datum)). entries_fit nodes n (entries_of es) ≡ true) entry_next h)

-- ---- The parts of a node at hand

pub array_parts : (nodes : List Node) (id : ℕ) (vs : Values) → fits nodes (Node.array id) (Value.array vs) ≡ true → each_fits nodes (node_at nodes id) vs ≡ true
array_parts nodes id vs h = (and_parts (is_count (values_count vs)) (each_fits nodes (node_at nodes id) vs) h).1

pub map_parts : (nodes : List Node) (id : ℕ) (es : Entries) → fits nodes (Node.map_of id) (Value.map_of es) ≡ true → entries_fit nodes (node_at nodes id) es ≡ true
map_parts nodes id es h =
    let f = MapFits-from_fits nodes (Node.map_of id) es h in
    let same : f.id ≡ id = sym (ap value_id f.is_map) in
    subst (λ (i : ℕ). entries_fit nodes (node_at nodes i) es ≡ true) same f.fitting

-- no branch of a union is one
pub no_union_within : (nodes : List Node) (id : ℕ) (ids : List ℕ) (k p : ℕ) → MeetRules nodes → node_at nodes id ≡ Node.union ids → slice_get ids k ≡ Some p → is_union (node_at nodes p) ≡ false
no_union_within nodes id ids k p rules is got =
    subst (λ (i : ℕ). is_union (node_at nodes i) ≡ false) (ap (λ (o : Option ℕ). unwrap_or o 0) got)
    (no_union (branch_node nodes ids k) (plain-branch nodes ids k (subst (λ (m : Node). meets_its_rules nodes m ≡ true) is (rules id)) (got_below ids k p got)))
  where
    got_below : (ids : List ℕ) (k p : ℕ) → slice_get ids k ≡ Some p → k < length ids
    got_below [] k p e = absurd cc
    got_below (i ∷ ids) zero p e = omega arith
    got_below (i ∷ ids) (suc k) p e = let more : k < length ids = got_below ids k p e in omega (arith, more)
