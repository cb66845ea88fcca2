-- What a pair of nodes makes of a datum, and its parts.
use Rattle.std.proofs.Common.{◌≡◌, ℕ, ◌<◌, ◌≤◌, true, length, Some, None, refl, arith}
use Rattle.std.specs.Prelude.{bytes_eq, slice_get, unwrap_or}
use Rattle.std.specs.List.{flat_map}
use Rattle.avro_schema.specs.Distinct.{are_distinct}
use Rattle.avro_schema.specs.Node.{FieldNode, field_ids}
use Rattle.avro_schema.specs.SeenSchema.{schema_nodes}
use Rattle.avro_schema.specs.Value.{Value, Values, Entries, entries_count}
use Rattle.avro_schema.specs.WellFormed.{field_names}
use Rattle.avro_schema.specs.declared.schema.Schema.{Schema}
use Rattle.avro_compare.specs.Pairs.{item_id, value_id}
use Rattle.avro_compare.specs.Resolve.{fields_at}
use Rattle.avro_compare.specs.Source.{source_of}
use Rattle.avro_resolve.specs.declared.plan.plan_pair.PlanPair.{PlanPair}
use Rattle.avro_display.specs.Table.{entry_at, value_at}
use Rattle.avro_show.specs.Showing.{AreEntries, AreFields, AreItems, IsAt, IsTaken, IsWritten, reader_node, writer_node}
use Rattle.avro_show.proofs.Made.{entries_at, field_found, field_past, field_there, from_default, is_field, items_at, record_ok, source_past, unmapped}

module _ (s : Schema × Schema) (p below : PlanPair) (u : Value) where
  pub array_taken : (vs : Values) → below.w.0 ≡ item_id (writer_node s p) → below.r.0 ≡ item_id (reader_node s p) → IsTaken s p (Value.array vs) u
      → (us : Values) × AreItems s below vs us × (Value.array us ≡ u)
  array_taken vs of_writer of_reader e = unmapped Value.array _ u (rw (of_writer, of_reader) e)

  pub map_taken : (es : Entries) → below.w.0 ≡ value_id (writer_node s p) → below.r.0 ≡ value_id (reader_node s p) → IsTaken s p (Value.map_of es) u
      → (us : Entries) × AreEntries s below es us × (Value.map_of us ≡ u)
  map_taken es of_writer of_reader e = unmapped Value.map_of _ u (rw (of_writer, of_reader) e)

pub record_taken : (s : Schema × Schema) (p : PlanPair) (u : Value) (vs : Values) → IsTaken s p (Value.record_of vs) u → (us : Values) × AreFields s p vs us × (Value.record_of us ≡ u)
record_taken s p u vs e = let found = record_ok _ _ _ _ u e in (_, (found.0, found.1, refl), found.2)

-- ---- Parts

pub item_is : (s : Schema × Schema) (p : PlanPair) (vs us : Values) (k : ℕ) → AreItems s p vs us → IsAt s p vs k (value_at us k)
item_is s p vs us k e = items_at (schema_nodes s.0) (schema_nodes s.1) (writer_node s p) (reader_node s p) 0 vs us k e

pub entry_is : (s : Schema × Schema) (p : PlanPair) (es us : Entries) (k : ℕ) → AreEntries s p es us
    → (k < entries_count es → IsWritten s p (entry_at es k) (entry_at us k)) × (entries_count es ≤ k → entry_at us k ≡ Value.null)
entry_is s p es us k e = entries_at (schema_nodes s.0) (schema_nodes s.1) (writer_node s p) (reader_node s p) 0 es us k e

module _ (s : Schema × Schema) (p : PlanPair) (vs us : Values) (index : ℕ) (all : AreFields s p vs us) where
  -- past the reader's fields
  pub no_field : length (fields_at (reader_node s p)) ≤ index → value_at us index ≡ Value.null
  no_field past = grind (arith, all.2, field_past)

  module _ (f : FieldNode) (there : slice_get (fields_at (reader_node s p)) index ≡ Some f) where
    -- a field that has a source
    pub source_is : (below : PlanPair) (k : ℕ) → are_distinct bytes_eq (flat_map field_names (fields_at (reader_node s p))) ≡ true → source_of (fields_at (writer_node s p)) f ≡ Some k
        → below.w.0 ≡ unwrap_or (slice_get (field_ids (fields_at (writer_node s p))) k) 0 → below.r.0 ≡ f.node → IsAt s below vs k (value_at us index)
    source_is below k distinct source of_writer of_reader =
        let ws = fields_at (writer_node s p) in
        let rs = fields_at (reader_node s p) in
        let taken = field_there ws all.0 rs index f there in (
          λ low. let found = field_found (schema_nodes s.0) (schema_nodes s.1) ws rs vs all.0 k f low (is_field rs index f there) distinct source all.1 in grind (arith, taken, all.2, found),
          λ past. let none = source_past (schema_nodes s.0) (schema_nodes s.1) ws rs 0 vs all.0 k (omega (arith, past)) all.1 in grind (arith, taken, all.2, none),
        )

    -- a field that has none
    pub default_is : source_of (fields_at (writer_node s p)) f ≡ None → value_at us index ≡ unwrap_or f.default Value.null
    default_is none =
        cc (all.2, field_there (fields_at (writer_node s p)) all.0 (fields_at (reader_node s p)) index f there, from_default (fields_at (writer_node s p)) all.0 f none)
