-- The schema that a JSON tree declares (Avro 1.11, "Schema Declaration").
use Rattle.std.specs.Prelude.{◌≡◌, Bool, true, false, not, ◌&&◌, ◌||◌, List, [], ◌∷◌, map, if◌then◌else◌, Option, Some, None, option_and_then, is_some}
use Rattle.std.specs.List.{list_all}
use Rattle.avro_schema.specs.Value.{Value}
use Rattle.avro_schema.specs.Node.{Node, FieldNode, node_at}
use Rattle.avro_schema.specs.WellFormed.{is_schema}
use Rattle.serde_json.specs.Data.{Data}
use Rattle.serde_json.specs.Written.{has_float}
use Rattle.avro_schema_json.specs.Declares.{RawField, RawNode, made_of}
use Rattle.avro_schema_json.specs.DeclaredDefaults.{default_of}

-- a field without its default
abbrev pub field_without_default : RawField → FieldNode
field_without_default f = record { name = f.name; aliases = f.aliases; node = f.node; default = None }

-- a node without its defaults
abbrev pub node_without_defaults : RawNode → Node
node_without_defaults (RawNode.plain n) = n
node_without_defaults (RawNode.record_of name aliases fields) = Node.record_of name aliases (map field_without_default fields)

-- several nodes without their defaults
abbrev pub nodes_without_defaults : List RawNode → List Node
nodes_without_defaults = map node_without_defaults

-- the default of a field among these nodes
abbrev pub field_default : List Node → RawField → Option Value
field_default nodes f = option_and_then (λ d. default_of nodes d (node_at nodes f.node)) f.default

-- a field with its default; one that is not a datum is left out
abbrev pub completed_field : List Node → RawField → FieldNode
completed_field nodes f = record { name = f.name; aliases = f.aliases; node = f.node; default = field_default nodes f }

-- a node with its defaults
abbrev pub completed_node : List Node → RawNode → Node
completed_node nodes (RawNode.plain n) = n
completed_node nodes (RawNode.record_of name aliases fields) = Node.record_of name aliases (map (completed_field nodes) fields)

-- several nodes with their defaults
abbrev pub completed_nodes : List RawNode → List Node
completed_nodes raws = map (completed_node (nodes_without_defaults raws)) raws

-- a field has no default, or one that is a datum
abbrev pub is_default_read : List Node → RawField → Bool
is_default_read nodes f = is_some (field_default nodes f) || not (is_some f.default)

-- each default of a node is a datum
abbrev pub are_defaults_read : List Node → RawNode → Bool
are_defaults_read nodes (RawNode.plain n) = true
are_defaults_read nodes (RawNode.record_of name aliases fields) = list_all (is_default_read nodes) fields

-- each default of several nodes is a datum
abbrev pub are_all_defaults_read : List RawNode → Bool
are_all_defaults_read raws = list_all (are_defaults_read (nodes_without_defaults raws)) raws

-- a list has no element
abbrev pub is_empty : {A : Type 0} → List A → Bool
is_empty [] = true
is_empty (x ∷ xs) = false

-- The schema that a tree declares: its numbers are whole, its declarations have no fault, its nodes are a schema, and
-- each default is a datum.
abbrev pub declared : Data → Option (List Node)
declared tree =
    if not (has_float tree) && is_empty (made_of tree).faults && is_schema (completed_nodes (made_of tree).nodes)
    && are_all_defaults_read (made_of tree).nodes
    then Some (completed_nodes (made_of tree).nodes) else None

-- a tree declares this schema
abbrev pub DeclaresSchema : Data → List Node → Type 0
DeclaresSchema tree nodes = declared tree ≡ Some nodes
