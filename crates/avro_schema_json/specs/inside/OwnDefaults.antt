-- The default that JSON is for a node itself, where no branch of a union is taken.
use Rattle.std.specs.Prelude.{List, Option, Some, None, option_and_then, map}
use denote.Ref.{Bor}
use Rattle.avro_schema.specs.Value.{Value}
use Rattle.avro_schema.specs.Node.{Node, FieldNode}
use Rattle.serde_json.specs.Data.{Data, Members}
use Rattle.avro_schema_json.specs.DeclaredDefaults.{null_default, boolean_default, number_default, text_default, items_default, object_default, each_default, entries_default, default_under, fields_default, member_keys, names_only, only_if}
use Rattle.avro_schema_json.specs.DeclaredSchema.{field_without_default, node_without_defaults, nodes_without_defaults}
use Rattle.avro_schema_json.specs.inside.SeenRaw.{raw_node_of, raw_nodes_of, raw_fields_of}
use Rattle.avro_schema_json.specs.declared.raw.RawNode.{RawNode}
use Rattle.avro_schema_json.specs.declared.raw.RawField.{RawField}

abbrev pub own_default : List Node → Data → Node → Option Value
own_default nodes Data.null n = null_default n
own_default nodes (Data.boolean b) n = boolean_default b n
own_default nodes (Data.number x) n = number_default x n
own_default nodes (Data.string text) n = text_default text n
own_default nodes (Data.array ds) n = items_default nodes (λ m. each_default nodes ds m) n
own_default nodes (Data.object ms) n = object_default nodes (λ m. entries_default nodes ms m) (λ key. default_under nodes key ms) (member_keys ms) n

-- the nodes without their defaults, of the program
abbrev pub without_defaults : RawNode → Node
without_defaults raw = node_without_defaults (raw_node_of raw)

abbrev pub all_without_defaults : List RawNode → List Node
all_without_defaults raws = nodes_without_defaults (raw_nodes_of raws)

-- the node that is found, or null
abbrev pub node_or_null : Option (Bor RawNode) → Node
node_or_null None = Node.null
node_or_null (Some raw) = without_defaults raw.now

-- the fields of a record without their defaults, of the program
abbrev pub fields_seen : List RawField → List FieldNode
fields_seen fields = map field_without_default (raw_fields_of fields)

-- a record, by a member for each field and no other
abbrev pub default_of_fields : List Node → Members → List FieldNode → Option Value
default_of_fields nodes ms fields =
    option_and_then (λ vs. only_if (names_only (member_keys ms) fields) (Value.record_of vs)) (fields_default nodes (λ key. default_under nodes key ms) fields)
