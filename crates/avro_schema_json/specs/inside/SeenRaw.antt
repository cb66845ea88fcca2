-- How contracts see nodes before their defaults are read.
use Rattle.std.specs.Prelude.{List, map, option_map, string_bytes}
use Rattle.avro_schema.specs.Node.{Node}
use Rattle.avro_schema.specs.Seen.{ids_of, texts_of}
use Rattle.avro_schema_json.specs.Declares.{RawField, RawNode}
use Rattle.serde_json.specs.View.{view}
use Rattle.avro_schema_json.specs.declared.raw.RawEnum.{RawEnum as KeptEnum}
use Rattle.avro_schema_json.specs.declared.raw.RawField.{RawField as KeptField}
use Rattle.avro_schema_json.specs.declared.raw.RawNode.{RawNode as KeptNode}
use Rattle.avro_schema_json.specs.declared.raw.RawRecord.{RawRecord as KeptRecord}

abbrev pub raw_field_of : KeptField → RawField
raw_field_of f = record {
  name = string_bytes f.name;
  aliases = texts_of f.aliases.items;
  node = f.node.0;
  default = option_map (λ d. view d.now) f.default;
}

abbrev pub raw_fields_of : List KeptField → List RawField
raw_fields_of fs = map raw_field_of fs

-- an enum, of which the indices of symbols are kept
abbrev pub enum_of : KeptEnum → Node
enum_of e = Node.enum e.node.name e.node.aliases.items (texts_of e.node.symbols.items) e.node.default

-- a record, with its defaults as JSON
abbrev pub raw_record_of : KeptRecord → RawNode
raw_record_of r = RawNode.record_of r.name r.aliases.items (raw_fields_of r.fields.items)

abbrev pub raw_node_of : KeptNode → RawNode
raw_node_of KeptNode.Null = RawNode.plain Node.null
raw_node_of KeptNode.Boolean = RawNode.plain Node.boolean
raw_node_of KeptNode.Int = RawNode.plain Node.int
raw_node_of KeptNode.Long = RawNode.plain Node.long
raw_node_of KeptNode.Bytes = RawNode.plain Node.bytes
raw_node_of KeptNode.Str = RawNode.plain Node.string
raw_node_of (KeptNode.Array id) = RawNode.plain (Node.array id.0)
raw_node_of (KeptNode.Map id) = RawNode.plain (Node.map_of id.0)
raw_node_of (KeptNode.Union ids) = RawNode.plain (Node.union (ids_of ids.items))
raw_node_of (KeptNode.Record r) = raw_record_of r
raw_node_of (KeptNode.Enum e) = RawNode.plain (enum_of e)
raw_node_of (KeptNode.Fixed f) = RawNode.plain (Node.fixed f.name f.aliases.items f.size)

abbrev pub raw_nodes_of : List KeptNode → List RawNode
raw_nodes_of ns = map raw_node_of ns
