-- The JSON tree that a canonical text spells, and what it takes to be read again (Avro 1.11, "Parsing Canonical Form for
-- Schemas", "Names").
use Rattle.std.specs.Prelude.{ℕ, suc, ◌+◌, Bool, true, not, ◌&&◌, ◌||◌, List, [], ◌∷◌, codes}
use Rattle.avro_name.specs.Name.{Name, is_empty_text}
use Rattle.avro_display.specs.DisplayTree.{name_text}
use Rattle.serde_json.specs.Data.{Data, Items, no_items, item, no_members, member}
use Rattle.serde_json.specs.Data.Num.{unsigned}
use Rattle.avro_canonical.specs.Form.{Form, Forms, FieldForms, no_forms, form, no_fields, field}

-- several texts as the items of an array
abbrev pub text_items : List (List ℕ) → Items
text_items [] = no_items
text_items (text ∷ texts) = item (Data.string text) (text_items texts)

-- The JSON tree of a form. The members of an object are in the order of their keys.
abbrev mutual
  pub form_tree : Form → Data
  form_tree (Form.primitive word) = Data.string word
  form_tree (Form.array f) = Data.object (member (codes "items") (form_tree f) (member (codes "type") (Data.string (codes "array")) no_members))
  form_tree (Form.map_of f) = Data.object (member (codes "type") (Data.string (codes "map")) (member (codes "values") (form_tree f) no_members))
  form_tree (Form.union fs) = Data.array (form_trees fs)
  form_tree (Form.record_of name fs) =
      Data.object (member (codes "fields") (Data.array (field_trees fs))
      (member (codes "name") (Data.string (name_text name)) (member (codes "type") (Data.string (codes "record")) no_members)))
  form_tree (Form.enum name symbols) =
      Data.object (member (codes "name") (Data.string (name_text name))
      (member (codes "symbols") (Data.array (text_items symbols)) (member (codes "type") (Data.string (codes "enum")) no_members)))
  form_tree (Form.fixed name count) =
      Data.object (member (codes "name") (Data.string (name_text name))
      (member (codes "size") (Data.number (unsigned count)) (member (codes "type") (Data.string (codes "fixed")) no_members)))
  form_tree (Form.reference name) = Data.string (name_text name)

  -- the trees of several forms
  pub form_trees : Forms → Items
  form_trees no_forms = no_items
  form_trees (form f fs) = item (form_tree f) (form_trees fs)

  -- the trees of the fields of a record
  pub field_trees : FieldForms → Items
  field_trees no_fields = no_items
  field_trees (field name f fs) =
      item (Data.object (member (codes "name") (Data.string name) (member (codes "type") (form_tree f) no_members))) (field_trees fs)

-- how many definitions, arrays, maps, unions and uses of primitive types a form has: the nodes of what its tree declares
abbrev mutual
  pub nodes_in : Form → ℕ
  nodes_in (Form.primitive word) = 1
  nodes_in (Form.array f) = suc (nodes_in f)
  nodes_in (Form.map_of f) = suc (nodes_in f)
  nodes_in (Form.union fs) = suc (nodes_in_all fs)
  nodes_in (Form.record_of name fs) = suc (nodes_in_fields fs)
  nodes_in (Form.enum name symbols) = 1
  nodes_in (Form.fixed name count) = 1
  nodes_in (Form.reference name) = 0

  -- the same of several forms together
  pub nodes_in_all : Forms → ℕ
  nodes_in_all no_forms = 0
  nodes_in_all (form f fs) = nodes_in f + nodes_in_all fs

  -- the same of the fields of a record together
  pub nodes_in_fields : FieldForms → ℕ
  nodes_in_fields no_fields = 0
  nodes_in_fields (field name f fs) = nodes_in f + nodes_in_fields fs

-- a name keeps its namespace inside a definition: one of the null namespace would be read as one of the namespace
-- around it
abbrev pub is_kept : List ℕ → Name → Bool
is_kept enclosing name = is_empty_text enclosing || not (is_empty_text name.namespace)

-- no type of the null namespace is defined or referred to inside a definition of another namespace
abbrev mutual
  pub keeps_names : List ℕ → Form → Bool
  keeps_names enclosing (Form.primitive word) = true
  keeps_names enclosing (Form.array f) = keeps_names enclosing f
  keeps_names enclosing (Form.map_of f) = keeps_names enclosing f
  keeps_names enclosing (Form.union fs) = all_keep_names enclosing fs
  keeps_names enclosing (Form.record_of name fs) = is_kept enclosing name && fields_keep_names name.namespace fs
  keeps_names enclosing (Form.enum name symbols) = is_kept enclosing name
  keeps_names enclosing (Form.fixed name count) = is_kept enclosing name
  keeps_names enclosing (Form.reference name) = is_kept enclosing name

  -- the same of each of several forms
  pub all_keep_names : List ℕ → Forms → Bool
  all_keep_names enclosing no_forms = true
  all_keep_names enclosing (form f fs) = keeps_names enclosing f && all_keep_names enclosing fs

  -- the same of each field of a record
  pub fields_keep_names : List ℕ → FieldForms → Bool
  fields_keep_names enclosing no_fields = true
  fields_keep_names enclosing (field name f fs) = keeps_names enclosing f && fields_keep_names enclosing fs
