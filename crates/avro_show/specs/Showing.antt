-- What the parts of a reader's data are displayed as: the writer's are resolved by two schemas, and displayed by a third,
-- which is meant to be the reader's.
use Rattle.std.specs.Prelude.{◌≡◌, ℕ, suc, ◌+◌, ◌<◌, ◌≤◌, List, [], ◌∷◌, Ok, Option, Some, option_map, slice_get, unwrap_or}
use Rattle.avro_schema.specs.Node.{Node, FieldNode, node_at}
use Rattle.avro_schema.specs.Seen.{entries_of, value_of, values_of}
use Rattle.avro_schema.specs.SeenSchema.{schema_nodes}
use Rattle.avro_schema.specs.Value.{Value, Values, Entries, depth, entries_depth, keys_of, values_count, values_depth}
use Rattle.avro_schema.specs.declared.schema.NodeId.{NodeId}
use Rattle.avro_schema.specs.declared.schema.Schema.{Schema}
use Rattle.avro_compare.specs.Resolve.{Sourced, fields_at, field_values, resolve, resolve_entries, resolve_items, resolve_sources}
use Rattle.avro_resolve.specs.declared.plan.plan_pair.PlanPair.{PlanPair}
use Rattle.serde_json.specs.Data.{Data}
use Rattle.avro_display.specs.Displayed.{Opens}
use Rattle.avro_display.specs.DisplayTree.{display_tree, part_at, record_fields}
use Rattle.avro_display.specs.Plain.{plain_entry, plain_item, plain_levels, plain_member, plain_shows}
use Rattle.avro_display.specs.Table.{entry_at, value_at}
use Rattle.avro_display.specs.declared.displayed.Opened.{Opened}
use Rattle.avro_display.specs.declared.member.Member.{Member}
use Rattle.avro_show.specs.Taken.{taken_as}
use Rattle.avro_show.specs.declared.part.Part.{Part}

-- the writer's node of a pair
abbrev pub writer_node : Schema × Schema → PlanPair → Node
writer_node s pair = node_at (schema_nodes s.0) pair.w.0

-- the reader's node of a pair
abbrev pub reader_node : Schema × Schema → PlanPair → Node
reader_node s pair = node_at (schema_nodes s.1) pair.r.0

-- the node of a display, null if there is none
abbrev pub shown_node : Schema → Option NodeId → Node
shown_node t id = part_at (schema_nodes t) (option_map (λ id. id.0) id)

-- the display of a value
abbrev pub shown : Schema → Option NodeId → Value → Data
shown t id v = display_tree (schema_nodes t) (shown_node t id) v

-- what a pair makes of a datum
abbrev pub IsWritten : Schema × Schema → PlanPair → Value → Value → Type 0
IsWritten s pair v u = resolve (schema_nodes s.0) (schema_nodes s.1) (writer_node s pair) (reader_node s pair) v ≡ Ok u

-- the same of a datum that is in no union, at a reader's node that is none
abbrev pub IsTaken : Schema × Schema → PlanPair → Value → Value → Type 0
IsTaken s pair v u = taken_as (schema_nodes s.0) (schema_nodes s.1) (writer_node s pair) v (reader_node s pair) ≡ Ok u

-- what it makes of items
abbrev pub AreItems : Schema × Schema → PlanPair → Values → Values → Type 0
AreItems s pair vs us = resolve_items (schema_nodes s.0) (schema_nodes s.1) (writer_node s pair) (reader_node s pair) 0 vs ≡ Ok us

-- what it makes of entries
abbrev pub AreEntries : Schema × Schema → PlanPair → Entries → Entries → Type 0
AreEntries s pair es us = resolve_entries (schema_nodes s.0) (schema_nodes s.1) (writer_node s pair) (reader_node s pair) 0 es ≡ Ok us

-- what it makes of the values of a record
abbrev pub AreFields : Schema × Schema → PlanPair → Values → Values → Type 0
AreFields s pair vs us = (found : Sourced)
    × (resolve_sources (schema_nodes s.0) (schema_nodes s.1) (fields_at (writer_node s pair)) (fields_at (reader_node s pair)) 0 vs ≡ Ok found)
    × (us ≡ field_values (fields_at (writer_node s pair)) found (fields_at (reader_node s pair)))

-- what it makes of the value at an index; null if there is none
abbrev pub IsAt : Schema × Schema → PlanPair → Values → ℕ → Value → Type 0
IsAt s pair vs k u = (k < values_count vs → IsWritten s pair (value_at vs k) u) × (values_count vs ≤ k → u ≡ Value.null)

-- which JSON a part of a writer's datum is displayed as: that of what resolution gives for it
abbrev pub resolved_shows : Schema × Schema → Schema → Part → Data → Type 0
resolved_shows s t (Part.Written pair id datum) d = (u : Value) × IsWritten s pair (value_of datum.now) u × (d ≡ shown t id u)
resolved_shows s t (Part.Targeted pair id datum) d = (u : Value) × IsTaken s pair (value_of datum.now) u × (d ≡ shown t id u)
resolved_shows s t (Part.Default p) d = plain_shows (schema_nodes t) p d
resolved_shows s t Part.Null d = d ≡ Data.null
resolved_shows s t p d = ⊥

-- which JSON an item is displayed as, by its index
abbrev pub resolved_item : Schema × Schema → Schema → Part → ℕ → Data → Type 0
resolved_item s t (Part.Items pair id items) i d = (us : Values) × AreItems s pair (values_of items.now) us × (d ≡ shown t id (value_at us i))
resolved_item s t (Part.Default p) i d = plain_item (schema_nodes t) p i d
resolved_item s t p i d = ⊥

-- an entry of a map, or a field of a record that lacks values
abbrev pub resolved_entry : Schema × Schema → Schema → Part → ℕ → List ℕ → Data → Type 0
resolved_entry s t (Part.Entries pair id entries) i k d =
    (us : Entries) × AreEntries s pair (entries_of entries.now) us × (slice_get (keys_of us) i ≡ Some k) × (d ≡ shown t id (entry_at us i))
resolved_entry s t (Part.Fields pair id values) i k d = (us : Values) × (f : FieldNode) × AreFields s pair (values_of values.now) us
    × (slice_get (record_fields (shown_node t id)) i ≡ Some f) × (k ≡ f.name) × (d ≡ display_tree (schema_nodes t) (node_at (schema_nodes t) f.node) (value_at us i))
resolved_entry s t (Part.Default p) i k d = plain_entry (schema_nodes t) p i k d
resolved_entry s t p i k d = ⊥

-- which JSON a field is displayed as
abbrev pub resolved_member : Schema × Schema → Schema → Part → Member → Data → Type 0
resolved_member s t (Part.Fields pair id values) m d = (us : Values) × AreFields s pair (values_of values.now) us × (d ≡ shown t (Some m.node) (value_at us m.field))
resolved_member s t (Part.Default p) m d = plain_member (schema_nodes t) p m d
resolved_member s t p m d = ⊥

-- what a part of a writer's datum is when it is opened
abbrev pub OpensResolved : Schema × Schema → Schema → Opened Part → Data → Type 0
OpensResolved s t o d = Opens (resolved_shows s t) (resolved_item s t) (resolved_entry s t) (resolved_member s t) o d

-- the default of a field; null if it has none
abbrev pub default_value : FieldNode → Value
default_value f = unwrap_or f.default Value.null

-- the depth of the default of a field, 0 if it has none
abbrev pub default_depth : FieldNode → ℕ
default_depth f = unwrap_or (option_map depth f.default) 0

-- the sum of the depths of the defaults of some fields
abbrev pub fields_depth : List FieldNode → ℕ
fields_depth [] = 0
fields_depth (f ∷ fs) = default_depth f + fields_depth fs

-- the sum of the depths of the defaults of some nodes
abbrev pub defaults_depth : List Node → ℕ
defaults_depth [] = 0
defaults_depth (n ∷ ns) = fields_depth (fields_at n) + defaults_depth ns

-- levels of a datum of this depth, whose parts may be in unions of the reader's, down to any default
abbrev pub levels_from : Schema × Schema → ℕ → ℕ
levels_from s n = defaults_depth (schema_nodes s.1) + (n + n)

-- how many levels a part of a writer's datum has at most
abbrev pub resolved_levels : Schema × Schema → Part → ℕ
resolved_levels s (Part.Written pair id datum) = suc (levels_from s (depth (value_of datum.now)))
resolved_levels s (Part.Targeted pair id datum) = levels_from s (depth (value_of datum.now))
resolved_levels s (Part.Items pair id items) = levels_from s (suc (values_depth (values_of items.now)))
resolved_levels s (Part.Entries pair id entries) = levels_from s (suc (entries_depth (entries_of entries.now)))
resolved_levels s (Part.Fields pair id values) = levels_from s (suc (values_depth (values_of values.now)))
resolved_levels s (Part.Default p) = plain_levels p
resolved_levels s Part.Null = 0
