-- A datum of a node, as what is displayed.
use Rattle.std.specs.Prelude.{◌≡◌, ℕ, ◌<◌, List, Option, Some, map, option_map, slice_get, ◌⊎◌}
use denote.Ref.{Bor}
use Rattle.avro_schema.specs.Node.{Node, node_at, items_node, values_node}
use Rattle.avro_schema.specs.Seen.{value_of}
use Rattle.avro_schema.specs.Value.{Value, Values, Entries, depth, keys_of, values_count}
use Rattle.avro_schema.specs.declared.datum.Datum.{Datum}
use Rattle.avro_schema.specs.declared.schema.NodeId.{NodeId}
use Rattle.serde_json.specs.Data.{Data}
use Rattle.avro_display.specs.DisplayTree.{display_tree, part_at, record_fields}
use Rattle.avro_display.specs.Displayed.{Opens}
use Rattle.avro_display.specs.declared.displayed.Opened.{Opened}
use Rattle.avro_display.specs.Table.{entry_tree, field_tree, value_at}
use Rattle.avro_display.specs.declared.member.Member.{Member}

-- a part: the id of its node, if it has one, and a datum
abbrev pub PlainPart : Type 0
PlainPart = Option NodeId × Bor Datum

-- the node of a part
abbrev pub plain_node : List Node → PlainPart → Node
plain_node nodes p = part_at nodes (option_map (λ id. id.0) p.0)

-- the datum of a part, as a value
abbrev pub plain_value : PlainPart → Value
plain_value p = value_of p.1.now

-- which JSON a datum of a node is displayed as
abbrev pub plain_shows : List Node → PlainPart → Data → Type 0
plain_shows nodes p d = d ≡ display_tree nodes (plain_node nodes p) (plain_value p)

-- which JSON an item is displayed as, by its index
abbrev pub plain_item : List Node → PlainPart → ℕ → Data → Type 0
plain_item nodes p i d = (vs : Values) × (plain_value p ≡ Value.array vs) × (i < values_count vs)
    × (d ≡ display_tree nodes (part_at nodes (items_node (plain_node nodes p))) (value_at vs i))

-- an entry of a map, or a field of a record that lacks values
abbrev pub plain_entry : List Node → PlainPart → ℕ → List ℕ → Data → Type 0
plain_entry nodes p i k d =
    ((es : Entries) × (plain_value p ≡ Value.map_of es) × (slice_get (keys_of es) i ≡ Some k)
    × (d ≡ entry_tree nodes (part_at nodes (values_node (plain_node nodes p))) es i))
    ⊎ ((vs : Values) × (plain_value p ≡ Value.record_of vs) × (i < values_count vs)
    × (slice_get (map (λ f. f.name) (record_fields (plain_node nodes p))) i ≡ Some k)
    × (d ≡ field_tree nodes (record_fields (plain_node nodes p)) vs i))

-- which JSON a field is displayed as
abbrev pub plain_member : List Node → PlainPart → Member → Data → Type 0
plain_member nodes p m d = (vs : Values) × (plain_value p ≡ Value.record_of vs) × (m.field < values_count vs)
    × (d ≡ display_tree nodes (node_at nodes m.node.0) (value_at vs m.field))

-- how many levels a part has: the depth of its datum
abbrev pub plain_levels : PlainPart → ℕ
plain_levels p = depth (plain_value p)

-- what a datum is when it is opened
abbrev pub OpensPlain : List Node → Opened PlainPart → Data → Type 0
OpensPlain nodes o d = Opens (plain_shows nodes) (plain_item nodes) (plain_entry nodes) (plain_member nodes) o d
