-- Defaults as the program hands them on: a list for each node, with what is there for each field.
use Rattle.std.specs.Prelude.{List, [], ◌∷◌, Option, None, map, option_map}
use Rattle.std.specs.Global.{Vec}
use Rattle.avro_schema.specs.Value.{Value}
use Rattle.avro_schema.specs.Node.{Node, FieldNode}
use Rattle.avro_schema.specs.Seen.{value_of}
use Rattle.avro_schema.specs.declared.datum.Datum.{Datum}
use Rattle.avro_schema_json.specs.Declares.{RawField, RawNode}
use Rattle.avro_schema_json.specs.DeclaredSchema.{field_default}

abbrev pub data_seen : List (Option Datum) → List (Option Value)
data_seen ds = map (option_map value_of) ds

abbrev pub lists_seen : List (Vec (Option Datum)) → List (List (Option Value))
lists_seen vs = map (λ v. data_seen v.items) vs

-- the defaults of the fields of a node
abbrev pub defaults_of_node : List Node → RawNode → List (Option Value)
defaults_of_node nodes (RawNode.plain n) = []
defaults_of_node nodes (RawNode.record_of name aliases fields) = map (field_default nodes) fields

-- the first of a list, and the others
abbrev pub first_or : {A : Type 0} → A → List A → A
first_or x [] = x
first_or x (y ∷ ys) = y

abbrev pub others_of : {A : Type 0} → List A → List A
others_of [] = []
others_of (x ∷ xs) = xs

-- fields with these defaults
abbrev pub fields_with_defaults : List RawField → List (Option Value) → List FieldNode
fields_with_defaults [] ds = []
fields_with_defaults (f ∷ fields) ds =
    record { name = f.name; aliases = f.aliases; node = f.node; default = first_or None ds } ∷ fields_with_defaults fields (others_of ds)

abbrev pub node_with_defaults : RawNode → List (Option Value) → Node
node_with_defaults (RawNode.plain n) ds = n
node_with_defaults (RawNode.record_of name aliases fields) ds = Node.record_of name aliases (fields_with_defaults fields ds)

abbrev pub nodes_with_defaults : List RawNode → List (List (Option Value)) → List Node
nodes_with_defaults [] ds = []
nodes_with_defaults (raw ∷ raws) ds = node_with_defaults raw (first_or [] ds) ∷ nodes_with_defaults raws (others_of ds)
