-- The canonical form of a schema (Avro 1.11, "Parsing Canonical Form for Schemas").
use Rattle.std.specs.Prelude.{◌≡◌, ℕ, Bool, true, false, List, [], ◌∷◌, Option, Some, None, codes}
use Rattle.std.specs.List.{list_any}
use Rattle.avro_name.specs.Name.{Name, same_name}
use Rattle.avro_schema.specs.Node.{Node, FieldNode, node_at, root_of, node_name}
use Rattle.avro_canonical.specs.Form.{Form, Forms, FieldForms, no_forms, form, no_fields, field, form_text, written_after}

-- the word of a primitive type
abbrev pub primitive_word : Node → Option (List ℕ)
primitive_word Node.null = Some (codes "null")
primitive_word Node.boolean = Some (codes "boolean")
primitive_word Node.int = Some (codes "int")
primitive_word Node.long = Some (codes "long")
primitive_word Node.bytes = Some (codes "bytes")
primitive_word Node.string = Some (codes "string")
primitive_word _ = None

-- a name is one of some
abbrev pub is_among : Name → List Name → Bool
is_among name names = list_any (same_name name) names

-- The form of a node when some names are written. A record, an enum or a fixed is defined at its first occurrence, and
-- is only its name from then on, also within its own definition.
mutual
  pub data IsForm (nodes : List Node) : List Name → Node → Form → Type 0 where
    primitive : {written : List Name} {n : Node} {word : List ℕ} → primitive_word n ≡ Some word → IsForm nodes written n (Form.primitive word)
    array : {written : List Name} {id : ℕ} {f : Form} → IsForm nodes written (node_at nodes id) f
        → IsForm nodes written (Node.array id) (Form.array f)
    map_of : {written : List Name} {id : ℕ} {f : Form} → IsForm nodes written (node_at nodes id) f
        → IsForm nodes written (Node.map_of id) (Form.map_of f)
    union : {written : List Name} {ids : List ℕ} {fs : Forms} → AreForms nodes written ids fs
        → IsForm nodes written (Node.union ids) (Form.union fs)
    record_of : {written : List Name} {name : Name} {aliases : List Name} {fields : List FieldNode} {fs : FieldForms}
        → is_among name written ≡ false → AreFieldForms nodes (name ∷ written) fields fs
        → IsForm nodes written (Node.record_of name aliases fields) (Form.record_of name fs)
    enum : {written : List Name} {name : Name} {aliases : List Name} {symbols : List (List ℕ)} {default : Option ℕ}
        → is_among name written ≡ false → IsForm nodes written (Node.enum name aliases symbols default) (Form.enum name symbols)
    fixed : {written : List Name} {name : Name} {aliases : List Name} {count : ℕ}
        → is_among name written ≡ false → IsForm nodes written (Node.fixed name aliases count) (Form.fixed name count)
    again : {written : List Name} {n : Node} {name : Name} → node_name n ≡ Some name → is_among name written ≡ true
        → IsForm nodes written n (Form.reference name)

  -- the forms of a union's branches, from left to right
  pub data AreForms (nodes : List Node) : List Name → List ℕ → Forms → Type 0 where
    no_branch : {written : List Name} → AreForms nodes written [] no_forms
    branch : {written : List Name} {id : ℕ} {ids : List ℕ} {f : Form} {fs : Forms} → IsForm nodes written (node_at nodes id) f
        → AreForms nodes (written_after written f) ids fs → AreForms nodes written (id ∷ ids) (form f fs)

  -- the forms of a record's fields, from left to right
  pub data AreFieldForms (nodes : List Node) : List Name → List FieldNode → FieldForms → Type 0 where
    no_field : {written : List Name} → AreFieldForms nodes written [] no_fields
    next_field : {written : List Name} {x : FieldNode} {xs : List FieldNode} {f : Form} {fs : FieldForms} → IsForm nodes written (node_at nodes x.node) f
        → AreFieldForms nodes (written_after written f) xs fs → AreFieldForms nodes written (x ∷ xs) (field x.name f fs)

-- the text of the root's form, when no name is written yet
pub record IsCanonical (nodes : List Node) (text : List ℕ) : Type 0 where
  pub form : Form
  pub formed : IsForm nodes [] (root_of nodes) form
  pub spelled : text ≡ form_text form
