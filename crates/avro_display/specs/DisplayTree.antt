-- The display of a datum: the JSON tree whose compact text it is. It is this project's own and not part of the standard.
use Rattle.std.specs.Prelude.{ℕ, List, [], ◌∷◌, ◌++◌, codes, encode_utf8_all, slice_get, Option, option_map, option_and_then, unwrap_or}
use Rattle.avro_name.specs.Name.{Name}
use Rattle.avro_schema.specs.Value.{Value, Values, no_values, value, Entries, no_entries, entry}
use Rattle.avro_schema.specs.Node.{Node, FieldNode, node_at, items_node, values_node, branches_of, fields_of, symbols_of}
use Rattle.serde_json.specs.Data.{Data, Items, no_items, item, Members, no_members, member, put}
use Rattle.serde_json.specs.Find.{of_integer}
use Rattle.serde_json.specs.Written.{compact_text}

-- a fullname as a text
abbrev pub name_text : Name → List ℕ
name_text name = in_namespace name.namespace name.simple
  where
    in_namespace : List ℕ → List ℕ → List ℕ
    in_namespace [] simple = simple
    in_namespace (c ∷ cs) simple = (c ∷ cs) ++ 46 ∷ simple

-- the key of a union's branch; a union is no branch
abbrev pub branch_key : Node → List ℕ
branch_key Node.null = codes "null"
branch_key Node.boolean = codes "boolean"
branch_key Node.int = codes "int"
branch_key Node.long = codes "long"
branch_key Node.bytes = codes "bytes"
branch_key Node.string = codes "string"
branch_key (Node.array id) = codes "array"
branch_key (Node.map_of id) = codes "map"
branch_key (Node.union ids) = []
branch_key (Node.record_of name aliases fields) = name_text name
branch_key (Node.enum name aliases symbols default) = name_text name
branch_key (Node.fixed name aliases count) = name_text name

-- the value of a branch: null by itself, another under the branch's key
abbrev pub branch_tree : Node → Data → Data
branch_tree Node.null d = Data.null
branch_tree n d = Data.object (member (branch_key n) d no_members)

-- the node of an id that a node has, null if it has none
abbrev pub part_at : List Node → Option ℕ → Node
part_at nodes id = unwrap_or (option_map (node_at nodes) id) Node.null

-- the node of a union's branch
abbrev pub branch_at : List Node → Node → ℕ → Node
branch_at nodes n k = part_at nodes (option_and_then (λ ids. slice_get ids k) (branches_of n))

-- the fields of a record, none of another node
abbrev pub record_fields : Node → List FieldNode
record_fields n = unwrap_or (fields_of n) []

-- the text of the symbol at an index
abbrev pub symbol_at : Node → ℕ → List ℕ
symbol_at n k = unwrap_or (option_and_then (λ symbols. slice_get symbols k) (symbols_of n)) []

-- The JSON that shows a datum, by cases on the datum. Bytes are a text of one character for each byte, whose code is
-- the byte's value. The keys of an object are in the order of their bytes.
abbrev mutual
  pub display_tree : List Node → Node → Value → Data
  display_tree nodes n Value.null = Data.null
  display_tree nodes n (Value.boolean b) = Data.boolean b
  display_tree nodes n (Value.int i) = Data.number (of_integer i)
  display_tree nodes n (Value.long i) = Data.number (of_integer i)
  display_tree nodes n (Value.bytes b) = Data.string (encode_utf8_all b)
  display_tree nodes n (Value.string t) = Data.string t
  display_tree nodes n (Value.array vs) = Data.array (display_items nodes (part_at nodes (items_node n)) vs)
  display_tree nodes n (Value.map_of es) = Data.object (display_entries nodes (part_at nodes (values_node n)) es no_members)
  display_tree nodes n (Value.union k v) = branch_tree (branch_at nodes n k) (display_tree nodes (branch_at nodes n k) v)
  display_tree nodes n (Value.record_of vs) = Data.object (display_fields nodes (record_fields n) vs no_members)
  display_tree nodes n (Value.enum k) = Data.string (symbol_at n k)
  display_tree nodes n (Value.fixed b) = Data.string (encode_utf8_all b)

  -- the trees of several items
  pub display_items : List Node → Node → Values → Items
  display_items nodes n no_values = no_items
  display_items nodes n (value v vs) = item (display_tree nodes n v) (display_items nodes n vs)

  -- the members, with each entry put at its key
  pub display_entries : List Node → Node → Entries → Members → Members
  display_entries nodes n no_entries members = members
  display_entries nodes n (entry k v es) members = display_entries nodes n es (put k (display_tree nodes n v) members)

  -- the members, with the value of each field put at the field's name
  pub display_fields : List Node → List FieldNode → Values → Members → Members
  display_fields nodes fields no_values members = members
  display_fields nodes [] (value v vs) members = members
  display_fields nodes (f ∷ fields) (value v vs) members =
      display_fields nodes fields vs (put f.name (display_tree nodes (node_at nodes f.node) v) members)

-- the compact text of that JSON
abbrev pub display_text : List Node → Node → Value → List ℕ
display_text nodes n v = compact_text (display_tree nodes n v)
