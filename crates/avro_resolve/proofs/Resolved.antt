-- What a datum resolves to fits the reader's node.
use Rattle.std.proofs.Common.{◌≡◌, ℕ, suc, ◌+◌, Bool, true, false, ◌&&◌, List, [], ◌∷◌, length, drop, Option, Some, None, Result, Ok, refl, ap, sym, subst, arith}
use Rattle.std.specs.Prelude.{IfOk, slice_get, unwrap_or, map, bytes_eq}
use Rattle.std.specs.List.{list_all}
use Rattle.std.proofs.lemmas.Bool.{and_parts, and_from, both_ways}
use Rattle.std.proofs.lemmas.List.{length-map}
use Rattle.std.proofs.lemmas.Result.{IfOk-at_ok}
use Rattle.avro_schema.specs.Value.{Value, Values, Entries, no_values, value, no_entries, entry, values_count, entries_count, keys_of}
use Rattle.avro_schema.specs.Node.{Node, FieldNode, node_at, root_of, items_node, values_node, branches_of, field_ids}
use Rattle.avro_schema.specs.Distinct.{are_distinct}
use Rattle.avro_schema.specs.Fits.{fits, each_fits, entries_fit, fields_fit, is_some_and, is_count, is_text}
use Rattle.avro_schema.specs.WellFormed.{meets_its_rules, is_schema}
use Rattle.avro_compare.specs.Match.{Matches}
use Rattle.avro_compare.specs.Source.{reader_field, missing_field}
use Rattle.avro_compare.specs.Fault.{ResolutionFault}
use Rattle.avro_compare.specs.Resolve.{Sourced, inside, result_map, branch_node, part_at, fields_at, symbol_at, int_as, bytes_as, string_as, enum_as, record_or_missing, field_values, resolve, resolve_items, resolve_entries, resolve_sources, resolve_root}
use Rattle.avro_resolve.proofs.Outcomes.{IfOk-inside, IfOk-result_map, IfOk-both}
use Rattle.avro_resolve.proofs.AtMatch.{FitsAt, IsPlain, null-at, boolean-at, int-at, long-at, bytes-at, string-at, fixed-at, enum-at, part-from, items-kept, values-kept, fields-kept, fields-from}
use Rattle.avro_compare.proofs.public.Rules.{MeetRules, MeetRules-from_is_schema, good-fields}
use Rattle.avro_resolve.proofs.Branches.{through-fits}
use Rattle.avro_resolve.proofs.RecordFields.{AreSourced, with_sourced-fits, id_at, field_values-fit}

-- a union's value fits its branch
branch-fit : (writer : List Node) (w : Node) (k : ℕ) (v : Value) → FitsAt writer w (Value.union k v)
    → FitsAt writer (branch_node writer (unwrap_or (branches_of w) []) k) v
branch-fit writer (Node.union ids) k v h = part-from (λ id. fits writer (node_at writer id) v) (slice_get ids k) h
branch-fit writer _ k v h = absurd (both_ways false refl h)

-- as many items as there were, each of which fits
abbrev ItemsFit : List Node → Node → Values → Values → Type 0
ItemsFit reader r vs us = (values_count us ≡ values_count vs) × (each_fits reader r us ≡ true)

-- the same keys, and values that fit
abbrev EntriesFit : List Node → Node → Entries → Entries → Type 0
EntriesFit reader r es ds = (entries_count ds ≡ entries_count es) × (keys_of ds ≡ keys_of es) × (entries_fit reader r ds ≡ true)

-- the items of a writer's array fit its items' node
array-items : (writer : List Node) (w : Node) (vs : Values) → FitsAt writer w (Value.array vs) → each_fits writer (part_at writer (items_node w)) vs ≡ true
array-items writer w vs h =
    let test = λ (id : ℕ). each_fits writer (node_at writer id) vs in
    part-from test (items_node w) (and_parts (is_count (values_count vs)) (is_some_and test (items_node w)) h).1

array-at : (writer reader : List Node) (vs us : Values) {w q : Node} → Matches writer reader w q → IsPlain q → FitsAt writer w (Value.array vs)
    → ItemsFit reader (part_at reader (items_node q)) vs us → FitsAt reader q (Value.array us)
array-at writer reader vs us {w = w} {q = q} m plain h items =
    let test = λ (id : ℕ). each_fits writer (node_at writer id) vs in
    let other = λ (id : ℕ). each_fits reader (node_at reader id) us in
    let parts = and_parts (is_count (values_count vs)) (is_some_and test (items_node w)) h in
    and_from (is_count (values_count us)) (is_some_and other (items_node q))
    (subst (λ (n : ℕ). is_count n ≡ true) (sym items.0) parts.0)
    (items-kept writer reader test other m plain parts.1 items.1)

-- the parts of what a map meets
abbrev MapParts : Node → (ℕ → Bool) → Entries → Type 0
MapParts n test es =
    (is_count (entries_count es) ≡ true) × (list_all is_text (keys_of es) ≡ true) × (are_distinct bytes_eq (keys_of es) ≡ true) × (is_some_and test (values_node n) ≡ true)

map-parts : (writer : List Node) (w : Node) (es : Entries) → FitsAt writer w (Value.map_of es) → MapParts w (λ id. entries_fit writer (node_at writer id) es) es
map-parts writer w es h = four (is_count (entries_count es)) (list_all is_text (keys_of es)) (are_distinct bytes_eq (keys_of es)) (is_some_and (λ id. entries_fit writer (node_at writer id) es) (values_node w)) h
  where
    four : (a b c d : Bool) → (a && b && c && d) ≡ true → (a ≡ true) × (b ≡ true) × (c ≡ true) × (d ≡ true)
    four true true true true e = (refl, refl, refl, refl)
    four _ _ _ _ e = absurd (both_ways false refl e)

map-from : (reader : List Node) (q : Node) (es : Entries) → MapParts q (λ id. entries_fit reader (node_at reader id) es) es → FitsAt reader q (Value.map_of es)
map-from reader q es h = four (is_count (entries_count es)) (list_all is_text (keys_of es)) (are_distinct bytes_eq (keys_of es)) (is_some_and (λ id. entries_fit reader (node_at reader id) es) (values_node q)) h.0 h.1 h.2 h.3
  where
    four : (a b c d : Bool) → a ≡ true → b ≡ true → c ≡ true → d ≡ true → (a && b && c && d) ≡ true
    four a b c d e f g h = grind arith

map-at : (writer reader : List Node) (es ds : Entries) {w q : Node} → Matches writer reader w q → IsPlain q → FitsAt writer w (Value.map_of es)
    → EntriesFit reader (part_at reader (values_node q)) es ds → FitsAt reader q (Value.map_of ds)
map-at writer reader es ds {w = w} {q = q} m plain h entries =
    let parts = map-parts writer w es h in
    map-from reader q ds (
      subst (λ (n : ℕ). is_count n ≡ true) (sym entries.0) parts.0,
      subst (λ (keys : List (List ℕ)). list_all is_text keys ≡ true) (sym entries.1) parts.1,
      subst (λ (keys : List (List ℕ)). are_distinct bytes_eq keys ≡ true) (sym entries.1) parts.2,
      values-kept writer reader (λ id. entries_fit writer (node_at writer id) es) (λ id. entries_fit reader (node_at reader id) ds) m plain parts.3 entries.2,
    )

map-values : (writer : List Node) (w : Node) (es : Entries) → FitsAt writer w (Value.map_of es) → entries_fit writer (part_at writer (values_node w)) es ≡ true
map-values writer w es h = part-from (λ id. entries_fit writer (node_at writer id) es) (values_node w) (map-parts writer w es h).3

record-at : (writer reader : List Node) (vs : Values) (w q : Node) → Matches writer reader w q → IsPlain q → meets_its_rules reader q ≡ true
    → FitsAt writer w (Value.record_of vs) → (sourced : Result Sourced ResolutionFault)
    → IfOk sourced (AreSourced reader (fields_at w) (fields_at q) 0 (length (fields_at w)))
    → (missing : Option ℕ) → missing_field (fields_at w) (fields_at q) ≡ missing
    → IfOk (record_or_missing (fields_at w) (fields_at q) missing sourced) (FitsAt reader q)
record-at writer reader vs w q m plain good h sourced all (Some id) e = tt
record-at writer reader vs w q m plain good h sourced all None e =
    IfOk-result_map (AreSourced reader (fields_at w) (fields_at q) 0 (length (fields_at w))) (FitsAt reader q)
    (λ found. Value.record_of (field_values (fields_at w) found (fields_at q))) sourced all
    (λ found each. fields-kept writer reader (λ fields. fields_fit writer (field_ids fields) vs)
    (λ fields. fields_fit reader (field_ids fields) (field_values (fields_at w) found (fields_at q))) m plain h
    (field_values-fit reader (fields_at w) (fields_at q) found e (good-fields reader q good) each))

record-fields : (writer : List Node) (w : Node) (vs : Values) → FitsAt writer w (Value.record_of vs) → fields_fit writer (field_ids (fields_at w)) vs ≡ true
record-fields writer w vs h = fields-from (λ fields. fields_fit writer (field_ids fields) vs) w h

-- by induction on the writer's datum
mutual
  pub resolve-fits : (writer reader : List Node) (rules : MeetRules reader) (w r : Node) (v : Value) → meets_its_rules reader r ≡ true
      → FitsAt writer w v → IfOk (resolve writer reader w r v) (FitsAt reader r)
  resolve-fits writer reader rules w r (Value.union k v) good h =
      IfOk-inside (FitsAt reader r) 0 (resolve writer reader (branch_node writer (unwrap_or (branches_of w) []) k) r v)
      (resolve-fits writer reader rules (branch_node writer (unwrap_or (branches_of w) []) k) r v good (branch-fit writer w k v h))
  resolve-fits writer reader rules w r Value.null good h =
      through-fits writer reader w r (λ q. Ok Value.null) rules good (λ q m plain meets. null-at writer reader m plain h)
  resolve-fits writer reader rules w r (Value.boolean b) good h =
      through-fits writer reader w r (λ q. Ok (Value.boolean b)) rules good (λ q m plain meets. boolean-at writer reader b m plain h)
  resolve-fits writer reader rules w r (Value.int i) good h =
      through-fits writer reader w r (int_as i) rules good (λ q m plain meets. int-at writer reader i m plain h)
  resolve-fits writer reader rules w r (Value.long i) good h =
      through-fits writer reader w r (λ q. Ok (Value.long i)) rules good (λ q m plain meets. long-at writer reader i m plain h)
  resolve-fits writer reader rules w r (Value.bytes b) good h =
      through-fits writer reader w r (bytes_as b) rules good (λ q m plain meets. bytes-at writer reader b m plain h)
  resolve-fits writer reader rules w r (Value.string t) good h =
      through-fits writer reader w r (string_as t) rules good (λ q m plain meets. string-at writer reader t m plain h)
  resolve-fits writer reader rules w r (Value.array vs) good h =
      through-fits writer reader w r
      (λ q. result_map Value.array (resolve_items writer reader (part_at writer (items_node w)) (part_at reader (items_node q)) 0 vs)) rules good
      (λ q m plain meets. IfOk-result_map (ItemsFit reader (part_at reader (items_node q)) vs) (FitsAt reader q) Value.array
      (resolve_items writer reader (part_at writer (items_node w)) (part_at reader (items_node q)) 0 vs)
      (items-fit writer reader rules (part_at writer (items_node w)) (part_at reader (items_node q)) 0 vs
      (rules (unwrap_or (items_node q) 0)) (array-items writer w vs h))
      (λ us items. array-at writer reader vs us m plain h items))
  resolve-fits writer reader rules w r (Value.map_of es) good h =
      through-fits writer reader w r
      (λ q. result_map Value.map_of (resolve_entries writer reader (part_at writer (values_node w)) (part_at reader (values_node q)) 0 es)) rules good
      (λ q m plain meets. IfOk-result_map (EntriesFit reader (part_at reader (values_node q)) es) (FitsAt reader q) Value.map_of
      (resolve_entries writer reader (part_at writer (values_node w)) (part_at reader (values_node q)) 0 es)
      (entries-fit writer reader rules (part_at writer (values_node w)) (part_at reader (values_node q)) 0 es
      (rules (unwrap_or (values_node q) 0)) (map-values writer w es h))
      (λ ds entries. map-at writer reader es ds m plain h entries))
  resolve-fits writer reader rules w r (Value.record_of vs) good h =
      through-fits writer reader w r
      (λ q. record_or_missing (fields_at w) (fields_at q) (missing_field (fields_at w) (fields_at q))
      (resolve_sources writer reader (fields_at w) (fields_at q) 0 vs)) rules good
      (λ q m plain meets. record-at writer reader vs w q m plain meets h (resolve_sources writer reader (fields_at w) (fields_at q) 0 vs)
      (sources-fit writer reader rules (fields_at w) (fields_at q) 0 (length (fields_at w)) (field_ids (fields_at w)) vs refl
      (omega (arith, length-map (fields_at w) (λ f. f.node))) (record-fields writer w vs h))
      (missing_field (fields_at w) (fields_at q)) refl)
  resolve-fits writer reader rules w r (Value.enum k) good h =
      through-fits writer reader w r (enum_as (symbol_at w k)) rules good (λ q m plain meets. enum-at reader (symbol_at w k) q meets)
  resolve-fits writer reader rules w r (Value.fixed b) good h =
      through-fits writer reader w r (λ q. Ok (Value.fixed b)) rules good (λ q m plain meets. fixed-at writer reader b m plain h)

  items-fit : (writer reader : List Node) (rules : MeetRules reader) (w r : Node) (index : ℕ) (vs : Values) → meets_its_rules reader r ≡ true
      → each_fits writer w vs ≡ true → IfOk (resolve_items writer reader w r index vs) (ItemsFit reader r vs)
  items-fit writer reader rules w r index no_values good h = (refl, refl)
  items-fit writer reader rules w r index (value v vs) good h =
      IfOk-both (FitsAt reader r) (ItemsFit reader r vs) (ItemsFit reader r (value v vs)) value
      (inside index (resolve writer reader w r v)) (resolve_items writer reader w r (suc index) vs)
      (IfOk-inside (FitsAt reader r) index (resolve writer reader w r v)
      (resolve-fits writer reader rules w r v good (and_parts (fits writer w v) (each_fits writer w vs) h).0))
      (items-fit writer reader rules w r (suc index) vs good (and_parts (fits writer w v) (each_fits writer w vs) h).1)
      (λ u us one more. (ap suc more.0, and_from (fits reader r u) (each_fits reader r us) one more.1))

  entries-fit : (writer reader : List Node) (rules : MeetRules reader) (w r : Node) (index : ℕ) (es : Entries) → meets_its_rules reader r ≡ true
      → entries_fit writer w es ≡ true → IfOk (resolve_entries writer reader w r index es) (EntriesFit reader r es)
  entries-fit writer reader rules w r index no_entries good h = (refl, refl, refl)
  entries-fit writer reader rules w r index (entry k v es) good h =
      IfOk-both (FitsAt reader r) (EntriesFit reader r es) (EntriesFit reader r (entry k v es)) (entry k)
      (inside index (resolve writer reader w r v)) (resolve_entries writer reader w r (suc index) es)
      (IfOk-inside (FitsAt reader r) index (resolve writer reader w r v)
      (resolve-fits writer reader rules w r v good (and_parts (fits writer w v) (entries_fit writer w es) h).0))
      (entries-fit writer reader rules w r (suc index) es good (and_parts (fits writer w v) (entries_fit writer w es) h).1)
      (λ u ds one more. (ap suc more.0, ap (λ (keys : List (List ℕ)). k ∷ keys) more.1, and_from (fits reader r u) (entries_fit reader r ds) one more.2))

  sources-fit : (writer reader : List Node) (rules : MeetRules reader) (ws rs : List FieldNode) (index to : ℕ) (ps : List ℕ) (vs : Values)
      → drop index (field_ids ws) ≡ ps → to ≡ index + length ps → fields_fit writer ps vs ≡ true
      → IfOk (resolve_sources writer reader ws rs index vs) (AreSourced reader ws rs index to)
  sources-fit writer reader rules ws rs index to [] no_values e n h = λ k f low high is. absurd (omega arith)
  sources-fit writer reader rules ws rs index to (p ∷ ps) no_values e n h = absurd (both_ways false refl h)
  sources-fit writer reader rules ws rs index to [] (value v vs) e n h = absurd (both_ways false refl h)
  sources-fit writer reader rules ws rs index to (p ∷ ps) (value v vs) e n h =
      with_sourced-fits reader ws rs index to (reader_field ws rs index)
      (λ f. resolve writer reader (node_at writer (unwrap_or (slice_get (map (λ g. g.node) ws) index) 0)) (node_at reader f.node) v)
      (resolve_sources writer reader ws rs (suc index) vs) refl
      (λ f. resolve-fits writer reader rules (node_at writer (unwrap_or (slice_get (map (λ g. g.node) ws) index) 0)) (node_at reader f.node) v (rules f.node)
      (subst (λ (i : ℕ). FitsAt writer (node_at writer i) v) (sym (id_at (field_ids ws) index p ps e).0)
      (and_parts (fits writer (node_at writer p) v) (fields_fit writer ps vs) h).0))
      (sources-fit writer reader rules ws rs (suc index) to ps vs (id_at (field_ids ws) index p ps e).1 (omega arith)
      (and_parts (fits writer (node_at writer p) v) (fields_fit writer ps vs) h).1)

-- at the roots
pub resolved_root_fits : (writer reader : List Node) (v u : Value) → is_schema reader ≡ true → FitsAt writer (root_of writer) v
    → resolve_root writer reader v ≡ Ok u → FitsAt reader (root_of reader) u
resolved_root_fits writer reader v u formed h e =
    IfOk-at_ok (FitsAt reader (root_of reader)) e
    (resolve-fits writer reader (MeetRules-from_is_schema reader formed) (root_of writer) (root_of reader) v (MeetRules-from_is_schema reader formed 0) h)
