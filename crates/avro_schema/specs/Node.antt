-- The nodes of a schema (Avro 1.11, "Schema Declaration"). A schema is the list of its nodes, the first of which is
-- its root; an edge is an id: an index in that list.
use Rattle.std.specs.Prelude.{ℕ, List, [], ◌∷◌, Option, Some, None, slice_get, map, unwrap_or}
use Rattle.avro_name.specs.Name.{Name}
use Rattle.avro_schema.specs.Value.{Value}

-- a field of a record: its name, its aliases, the node of its data, and its default
pub record FieldNode : Type 0 where
  pub name : List ℕ
  pub aliases : List (List ℕ)
  pub node : ℕ
  pub default : Option Value

-- a node of a schema; the ids in it are its edges
pub data Node : Type 0 where
  null : Node
  boolean : Node
  int : Node
  long : Node
  bytes : Node
  string : Node
  -- the items' node
  array : ℕ → Node
  -- the values' node
  map_of : ℕ → Node
  -- the branches' nodes
  union : List ℕ → Node
  -- name, aliases, fields
  record_of : Name → List Name → List FieldNode → Node
  -- name, aliases, symbols, the index of the default symbol
  enum : Name → List Name → List (List ℕ) → Option ℕ → Node
  -- name, aliases, number of bytes
  fixed : Name → List Name → ℕ → Node

-- the node of an id; no edge of a well-formed schema is out of range
abbrev pub node_at : List Node → ℕ → Node
node_at nodes id = unwrap_or (slice_get nodes id) Node.null

-- the root of a schema, which is its first node
abbrev pub root_of : List Node → Node
root_of nodes = node_at nodes 0

-- the name of a record, an enum or a fixed
abbrev pub node_name : Node → Option Name
node_name (Node.record_of name aliases fields) = Some name
node_name (Node.enum name aliases symbols default) = Some name
node_name (Node.fixed name aliases count) = Some name
node_name _ = None

-- the aliases of a record, an enum or a fixed
abbrev pub node_aliases : Node → List Name
node_aliases (Node.record_of name aliases fields) = aliases
node_aliases (Node.enum name aliases symbols default) = aliases
node_aliases (Node.fixed name aliases count) = aliases
node_aliases _ = []

-- the node of an array's items
abbrev pub items_node : Node → Option ℕ
items_node (Node.array id) = Some id
items_node _ = None

-- the node of a map's values
abbrev pub values_node : Node → Option ℕ
values_node (Node.map_of id) = Some id
values_node _ = None

-- the nodes of a union's branches
abbrev pub branches_of : Node → Option (List ℕ)
branches_of (Node.union ids) = Some ids
branches_of _ = None

-- the fields of a record
abbrev pub fields_of : Node → Option (List FieldNode)
fields_of (Node.record_of name aliases fields) = Some fields
fields_of _ = None

-- the symbols of an enum
abbrev pub symbols_of : Node → Option (List (List ℕ))
symbols_of (Node.enum name aliases symbols default) = Some symbols
symbols_of _ = None

-- the number of bytes of a fixed
abbrev pub fixed_length : Node → Option ℕ
fixed_length (Node.fixed name aliases count) = Some count
fixed_length _ = None

-- the nodes of some fields
abbrev pub field_ids : List FieldNode → List ℕ
field_ids fields = map (λ f. f.node) fields

-- the edges of a node
abbrev pub edges_of : Node → List ℕ
edges_of (Node.array id) = id ∷ []
edges_of (Node.map_of id) = id ∷ []
edges_of (Node.union ids) = ids
edges_of (Node.record_of name aliases fields) = field_ids fields
edges_of _ = []
