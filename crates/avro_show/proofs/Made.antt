-- What a datum is for a reader, part by part.
use Rattle.std.proofs.Common.{◌≡◌, ℕ, zero, suc, ◌+◌, ◌<◌, ◌≤◌, true, List, [], ◌∷◌, length, map, Option, Some, None, Result, Ok, Err, refl, subst, arith}
use Rattle.std.specs.Prelude.{bytes_eq, slice_get, unwrap_or}
use Rattle.std.specs.List.{flat_map}
use Rattle.std.proofs.lemmas.Bool.{eq-eqb, ne_eqb}
use Rattle.avro_schema.specs.Distinct.{are_distinct}
use Rattle.avro_schema.specs.Node.{Node, FieldNode, node_at}
use Rattle.avro_schema.specs.Value.{Value, Values, no_values, value, Entries, no_entries, entry, entries_count, keys_of, values_count}
use Rattle.avro_schema.specs.WellFormed.{field_names}
use Rattle.avro_compare.specs.Fault.{ResolutionFault}
use Rattle.avro_compare.specs.Fields.{IsField, here, later}
use Rattle.avro_compare.specs.Resolve.{Resolved, Sourced, record_or_missing, field_value, field_values, resolve, resolve_entries, resolve_items, resolve_sources, result_map, sourced_at}
use Rattle.avro_compare.specs.Source.{reader_field, source_of}
use Rattle.avro_display.specs.Table.{entry_at, value_at}
use Rattle.avro_compare.proofs.public.Sources.{reader_field-source}

-- ---- Results that are good

pub unmapped : {A B : Type 0} (f : A → B) (r : Result A ResolutionFault) (b : B) → result_map f r ≡ Ok b → (a : A) × (r ≡ Ok a) × (f a ≡ b)
unmapped f (Ok a) b e = (a, refl, cc)
unmapped f (Err e) b h = absurd cc

module _ (writer reader : List Node) (w r : Node) where
  -- ---- Items

  pub items_at : (i : ℕ) (vs us : Values) (k : ℕ) → resolve_items writer reader w r i vs ≡ Ok us
      → (k < values_count vs → resolve writer reader w r (value_at vs k) ≡ Ok (value_at us k)) × (values_count vs ≤ k → value_at us k ≡ Value.null)
  items_at i no_values us k e = grind arith
  items_at i (value v vs) us zero e = grind arith
  items_at i (value v vs) us (suc k) e = grind (arith, items_at (suc i) vs)

  pub items_counted : (i : ℕ) (vs us : Values) → resolve_items writer reader w r i vs ≡ Ok us → values_count us ≡ values_count vs
  items_counted i no_values us e = grind arith
  items_counted i (value v vs) us e = grind (arith, items_counted (suc i) vs)

  -- ---- Entries

  pub entries_at : (i : ℕ) (es us : Entries) (k : ℕ) → resolve_entries writer reader w r i es ≡ Ok us
      → (k < entries_count es → resolve writer reader w r (entry_at es k) ≡ Ok (entry_at us k)) × (entries_count es ≤ k → entry_at us k ≡ Value.null)
  entries_at i no_entries us k e = grind arith
  entries_at i (entry n v es) us zero e = grind arith
  entries_at i (entry n v es) us (suc k) e = grind (arith, entries_at (suc i) es)

  -- the keys are kept
  pub keys_kept : (i : ℕ) (es us : Entries) → resolve_entries writer reader w r i es ≡ Ok us → keys_of us ≡ keys_of es
  keys_kept i no_entries us e = grind arith
  keys_kept i (entry k v es) us e = grind (arith, keys_kept (suc i) es)

-- ---- Fields

-- a record of which no field is missing
pub record_ok : (ws rs : List FieldNode) (missing : Option ℕ) (r : Result Sourced ResolutionFault) (u : Value) → record_or_missing ws rs missing r ≡ Ok u
    → (found : Sourced) × (r ≡ Ok found) × (Value.record_of (field_values ws found rs) ≡ u)
record_ok ws rs None r u e = unmapped (λ found. Value.record_of (field_values ws found rs)) r u e
record_ok ws rs (Some k) r u e = absurd cc

module _ (writer reader : List Node) (ws rs : List FieldNode) where
  -- how the value of the writer's field at an index is resolved
  abbrev pub by_source : ℕ → Value → FieldNode → Resolved
  by_source k v f = resolve writer reader (node_at writer (unwrap_or (slice_get (map (λ g. g.node) ws) k) 0)) (node_at reader f.node) v

  -- what was found of the value at an index is what it is for the field whose source it is
  source_found : (i : ℕ) (vs : Values) (found : Sourced) (k j : ℕ) (f : FieldNode) → k < values_count vs → j ≡ i + k → reader_field ws rs j ≡ Some f
      → resolve_sources writer reader ws rs i vs ≡ Ok found → by_source j (value_at vs k) f ≡ Ok (sourced_at found j)
  source_found i no_values found k j f low at is e = grind arith
  source_found i (value v vs) found zero j f low at is e = grind (arith, eq-eqb)
  source_found i (value v vs) found (suc k) j f low at is e = grind (arith, ne_eqb, source_found (suc i) vs)

  -- nothing was found past the values
  pub source_past : (i : ℕ) (vs : Values) (found : Sourced) (j : ℕ) → i + values_count vs ≤ j → resolve_sources writer reader ws rs i vs ≡ Ok found → sourced_at found j ≡ Value.null
  source_past i no_values found j past e = grind arith
  source_past i (value v vs) found j past e = grind (arith, ne_eqb, source_past (suc i) vs)

  -- the same of any field that has the source
  pub field_found : (vs : Values) (found : Sourced) (k : ℕ) (f : FieldNode) → k < values_count vs → IsField f rs → are_distinct bytes_eq (flat_map field_names rs) ≡ true
      → source_of ws f ≡ Some k → resolve_sources writer reader ws rs 0 vs ≡ Ok found → by_source k (value_at vs k) f ≡ Ok (sourced_at found k)
  field_found vs found k f low is distinct source e =
      let takes = reader_field-source ws rs k f is distinct source in
      rw (← takes.2) (source_found 0 vs found k k takes.0 low (omega arith) takes.1 e)

-- a field that is at an index is one of the fields
pub is_field : (fs : List FieldNode) (k : ℕ) (f : FieldNode) → slice_get fs k ≡ Some f → IsField f fs
is_field [] k f e = grind arith
is_field (g ∷ fs) zero f e = let same : g ≡ f = cc in subst (λ h. IsField h (g ∷ fs)) same here
is_field (g ∷ fs) (suc k) f e = later (is_field fs k f e)

module _ (ws : List FieldNode) (found : Sourced) where
  -- there is a value for each of the reader's fields
  pub count_fields : (rs : List FieldNode) → values_count (field_values ws found rs) ≡ length rs
  count_fields [] = refl
  count_fields (f ∷ rs) = grind (arith, count_fields rs)

  pub field_there : (rs : List FieldNode) (k : ℕ) (f : FieldNode) → slice_get rs k ≡ Some f → value_at (field_values ws found rs) k ≡ field_value ws found f
  field_there [] k f e = grind arith
  field_there (g ∷ rs) zero f e = grind arith
  field_there (g ∷ rs) (suc k) f e = field_there rs k f e

  pub field_past : (rs : List FieldNode) (k : ℕ) → length rs ≤ k → value_at (field_values ws found rs) k ≡ Value.null
  field_past [] k past = refl
  field_past (g ∷ rs) zero past = grind arith
  field_past (g ∷ rs) (suc k) past = grind (arith, field_past rs k)

  -- its default, if it has no source
  pub from_default : (f : FieldNode) → source_of ws f ≡ None → field_value ws found f ≡ unwrap_or f.default Value.null
  from_default f is = rw is refl
