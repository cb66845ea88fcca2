-- What is known of a schema before data are displayed: each record's fields in their order, and finished texts of names.
use Rattle.std.specs.Prelude.{◌≡◌, ◌<◌, ℕ, zero, suc, length, List, [], ◌∷◌, ◌++◌, map, Option, Some, None, slice_get, option_map, unwrap_or}
use Rattle.std.specs.List.{AllByRecursion}
use Rattle.avro_schema.specs.Value.{Value, Values, no_values, value, Entries, no_entries, entry}
use Rattle.avro_schema.specs.Node.{Node, FieldNode, node_at}
use Rattle.json.specs.Print.{quoted}
use Rattle.serde_json.specs.Data.{Data}
use Rattle.avro_display.specs.DisplayTree.{branch_key, display_tree}
use Rattle.avro_display.specs.Order.{IsOrder}
use Rattle.avro_display.specs.declared.member.Member.{Member}

-- the text before a member's value
abbrev pub head_text : List ℕ → List ℕ
head_text name = quoted name ++ 58 ∷ []

-- the text before the value of a union's branch; null stands by itself
abbrev pub opening_of : Node → Option (List ℕ)
opening_of Node.null = None
opening_of n = Some (123 ∷ head_text (branch_key n))

-- the node of the field at an index
abbrev pub field_id : List FieldNode → ℕ → ℕ
field_id fields index = unwrap_or (option_map (λ f. f.node) (slice_get fields index)) 0

-- the value at an index
abbrev pub value_at : Values → ℕ → Value
value_at no_values index = Value.null
value_at (value v vs) zero = v
value_at (value v vs) (suc index) = value_at vs index

-- the tree of the field at an index
abbrev pub field_tree : List Node → List FieldNode → Values → ℕ → Data
field_tree nodes fields vs index = display_tree nodes (node_at nodes (field_id fields index)) (value_at vs index)

-- the value of the entry at an index
abbrev pub entry_at : Entries → ℕ → Value
entry_at no_entries index = Value.null
entry_at (entry k v es) zero = v
entry_at (entry k v es) (suc index) = entry_at es index

-- the tree of the entry at an index
abbrev pub entry_tree : List Node → Node → Entries → ℕ → Data
entry_tree nodes n es index = display_tree nodes n (entry_at es index)

-- the name of the field at an index
abbrev pub field_name : List FieldNode → ℕ → List ℕ
field_name fields index = unwrap_or (option_map (λ f. f.name) (slice_get fields index)) []

-- the key and the index of a member
abbrev pub place_of : List FieldNode → Member → List ℕ × ℕ
place_of fields m = (field_name fields m.field, m.field)

-- a member is of a field, and has its node
abbrev pub IsMember : List FieldNode → Member → Type 0
IsMember fields m = (m.field < length fields) × (m.node.0 ≡ field_id fields m.field)

-- the text before each value: a brace or a comma, and the key
abbrev pub AreHeads : List FieldNode → ℕ → List Member → Type 0
AreHeads fields opener [] = Unit {0}
AreHeads fields opener (m ∷ ms) = (m.head.items ≡ opener ∷ head_text (field_name fields m.field)) × AreHeads fields 44 ms

-- the fields of a record in the order in which they are displayed, each with the text before its value
pub record AreMembers (fields : List FieldNode) (ms : List Member) : Type 0 where
  pub order : IsOrder (map (λ f. f.name) fields) (map (place_of fields) ms)
  pub each : AllByRecursion (IsMember fields) ms
  pub heads : AreHeads fields 123 ms
