-- Worked trees of canonical texts, and what they declare: computed.
use Rattle.std.proofs.Common.{◌≡◌, [], ◌∷◌, true, false, refl, None, codes}
use Rattle.avro_schema.specs.Node.{Node}
use Rattle.serde_json.specs.Data.{Data, no_members, member}
use Rattle.avro_schema_json.specs.DeclaredSchema.{DeclaresSchema}
use Rattle.avro_canonical.specs.Form.{Form, no_forms, form, no_fields, field}
use Rattle.avro_canonical.specs.CanonicalTree.{form_tree, nodes_in, keeps_names}
use Rattle.avro_canonical.proofs.Rows.{named, simply}

-- an enum of the null namespace inside a record of another
abbrev enum_inside : Form
enum_inside = Form.record_of (named (codes "a") (codes "R")) (field (codes "e") (Form.enum (named [] (codes "E")) (codes "X" ∷ [])) no_fields)

enum_is_not_kept : keeps_names [] enum_inside ≡ false
enum_is_not_kept = refl

-- it would be read as an enum of the record's namespace
enum_read_elsewhere : DeclaresSchema (form_tree enum_inside)
    (Node.record_of (named (codes "a") (codes "R")) [] (simply (codes "e") 1 ∷ []) ∷ Node.enum (named (codes "a") (codes "E")) [] (codes "X" ∷ []) None ∷ [])
enum_read_elsewhere = refl

-- a record that refers to itself, and a map of a fixed
abbrev node_list : Form
node_list = Form.record_of (named (codes "a") (codes "Node")) (field (codes "value") (Form.map_of (Form.fixed (named (codes "b") (codes "F")) 3))
    (field (codes "next") (Form.union (form (Form.primitive (codes "null")) (form (Form.reference (named (codes "a") (codes "Node"))) no_forms))) no_fields))

five_nodes : nodes_in node_list ≡ 5
five_nodes = refl

names_are_kept : keeps_names [] node_list ≡ true
names_are_kept = refl

tree_of_map : form_tree (Form.map_of (Form.fixed (named (codes "b") (codes "F")) 3))
    ≡ Data.object (member (codes "type") (Data.string (codes "map")) (member (codes "values")
    (form_tree (Form.fixed (named (codes "b") (codes "F")) 3)) no_members))
tree_of_map = refl

node_list_read : DeclaresSchema (form_tree node_list)
    (Node.record_of (named (codes "a") (codes "Node")) [] (simply (codes "value") 1 ∷ simply (codes "next") 3 ∷ [])
    ∷ Node.map_of 2 ∷ Node.fixed (named (codes "b") (codes "F")) [] 3 ∷ Node.union (4 ∷ 0 ∷ []) ∷ Node.null ∷ [])
node_list_read = refl

-- a fixed of the null namespace may be beside a record of another, and be named there
abbrev beside : Form
beside = Form.union (form (Form.fixed (named [] (codes "F")) 1) (form (Form.record_of (named (codes "a") (codes "R")) no_fields) (form (Form.array (Form.reference (named [] (codes "F")))) no_forms)))

beside_is_kept : keeps_names [] beside ≡ true
beside_is_kept = refl

-- but not inside that record
abbrev named_inside : Form
named_inside = Form.union (form (Form.fixed (named [] (codes "F")) 1)
    (form (Form.record_of (named (codes "a") (codes "R")) (field (codes "f") (Form.reference (named [] (codes "F"))) no_fields)) no_forms))

named_is_not_kept : keeps_names [] named_inside ≡ false
named_is_not_kept = refl
