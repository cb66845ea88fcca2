-- How contracts see the data and the nodes of the program: a text is its bytes, a `Vec` its items, a `Box` its value.
use Rattle.std.specs.Prelude.{ℕ, List, [], ◌∷◌, Option, Some, None, map, String, string_bytes}
use Rattle.std.specs.declared.alloc.Global.{Global}
use Rattle.avro_schema.specs.Value.{Value, Values, Entries, no_values, value, no_entries, entry}
use Rattle.avro_schema.specs.Node.{Node, FieldNode}
use Rattle.avro_schema.specs.declared.datum.Datum.{Datum}
use Rattle.avro_schema.specs.declared.datum.Datum.TheOpen.{Datum-F}
use Rattle.avro_schema.specs.declared.datum.Datum.TheFolds.{fold-Datum}
use Rattle.avro_schema.specs.declared.schema.NodeId.{NodeId}
use Rattle.avro_schema.specs.declared.schema.Field.{Field}
use Rattle.avro_schema.specs.declared.schema.Node.{Node as KeptNode}

-- the values of a list
abbrev pub values_from : List Value → Values
values_from [] = no_values
values_from (v ∷ vs) = value v (values_from vs)

-- the entries of a list
abbrev pub entries_from : List (List ℕ × Value) → Entries
entries_from [] = no_entries
entries_from (e ∷ es) = entry e.0 e.1 (entries_from es)

-- one level of a datum, with a value in place of each part
abbrev pub view_step : Datum-F Value → Value
view_step Datum-F.Null = Value.null
view_step (Datum-F.Bool b) = Value.boolean b
view_step (Datum-F.Int i) = Value.int i
view_step (Datum-F.Long i) = Value.long i
view_step (Datum-F.Bytes b) = Value.bytes b.items
view_step (Datum-F.Str t) = Value.string (string_bytes t)
view_step (Datum-F.Array vs) = Value.array (values_from vs.items)
view_step (Datum-F.Map es) = Value.map_of (entries_from (map (λ e. (string_bytes e.0, e.1)) es.items))
view_step (Datum-F.Union k v) = Value.union k v.value
view_step (Datum-F.Record vs) = Value.record_of (values_from vs.items)
view_step (Datum-F.Enum k) = Value.enum k
view_step (Datum-F.Fixed b) = Value.fixed b.items

-- a datum of the program, as a value
abbrev pub value_of : Datum → Value
value_of = fold-Datum Value view_step

-- several data, as values
abbrev pub values_of : List Datum → Values
values_of ds = values_from (map value_of ds)

-- a key and its value
abbrev pub pair_of : (String Global × Datum) → (List ℕ × Value)
pair_of e = (string_bytes e.0, value_of e.1)

-- the entries of a map, as entries of values
abbrev pub entries_of : List (String Global × Datum) → Entries
entries_of es = entries_from (map pair_of es)

-- the bytes of several texts
abbrev pub texts_of : List (String Global) → List (List ℕ)
texts_of ts = map (λ t. string_bytes t) ts

-- the ids of some nodes
abbrev pub ids_of : List NodeId → List ℕ
ids_of ids = map (λ id. id.0) ids

-- a default, as a value
abbrev pub default_of : Option Datum → Option Value
default_of None = None
default_of (Some d) = Some (value_of d)

-- a field of the program, as one of a node
abbrev pub field_of : Field → FieldNode
field_of f = record { name = string_bytes f.name; aliases = texts_of f.aliases.items; node = f.node.0; default = default_of f.default }

-- several fields
abbrev pub seen_fields : List Field → List FieldNode
seen_fields fs = map field_of fs

-- a node of the program, as a node
abbrev pub node_of : KeptNode → Node
node_of KeptNode.Null = Node.null
node_of KeptNode.Boolean = Node.boolean
node_of KeptNode.Int = Node.int
node_of KeptNode.Long = Node.long
node_of KeptNode.Bytes = Node.bytes
node_of KeptNode.Str = Node.string
node_of (KeptNode.Array id) = Node.array id.0
node_of (KeptNode.Map id) = Node.map_of id.0
node_of (KeptNode.Union ids) = Node.union (ids_of ids.items)
node_of (KeptNode.Record r) = Node.record_of r.name r.aliases.items (seen_fields r.fields.items)
node_of (KeptNode.Enum e) = Node.enum e.name e.aliases.items (texts_of e.symbols.items) e.default
node_of (KeptNode.Fixed f) = Node.fixed f.name f.aliases.items f.size

-- several nodes
abbrev pub nodes_of : List KeptNode → List Node
nodes_of ns = map node_of ns
