-- The canonical form of a schema as a tree, and the text of such a tree (Avro 1.11, "Parsing Canonical Form for
-- Schemas"). What STRIP takes away, docs, aliases, defaults and other attributes, has no place in the tree.
use Rattle.std.specs.Prelude.{ℕ, List, [], ◌∷◌, ◌++◌, map, codes, decimal}
use Rattle.avro_name.specs.Name.{Name}
use Rattle.avro_display.specs.DisplayTree.{name_text}

-- a canonical form as a tree
mutual
  pub data Form : Type 0 where
    -- PRIMITIVES: the word alone
    primitive : List ℕ → Form
    array : Form → Form
    map_of : Form → Form
    union : Forms → Form
    -- the definition of a record, an enum or a fixed
    record_of : Name → FieldForms → Form
    enum : Name → List (List ℕ) → Form
    fixed : Name → ℕ → Form
    -- a type that is defined before, by its name
    reference : Name → Form

  -- several forms
  pub data Forms : Type 0 where
    no_forms : Forms
    form : Form → Forms → Forms

  -- the fields of a record, each with its name
  pub data FieldForms : Type 0 where
    no_fields : FieldForms
    field : List ℕ → Form → FieldForms → FieldForms

-- STRINGS: names and symbols hold no character that needs an escape
abbrev pub quoted : List ℕ → List ℕ
quoted text = codes "\"" ++ text ++ codes "\""

-- FULLNAMES: the namespace and the simple part, joined by a dot
abbrev pub full_text : Name → List ℕ
full_text name = quoted (name_text name)

-- texts after another one, a comma before each
abbrev pub after_commas : List (List ℕ) → List ℕ
after_commas [] = []
after_commas (t ∷ ts) = codes "," ++ t ++ after_commas ts

-- texts with commas between them
abbrev pub with_commas : List (List ℕ) → List ℕ
with_commas [] = []
with_commas (t ∷ ts) = t ++ after_commas ts

-- The text of a form. ORDER: name, type, fields, symbols, items, values, size. INTEGERS: decimal digits, no zero before
-- them. WHITESPACE: none.
abbrev mutual
  pub form_text : Form → List ℕ
  form_text (Form.primitive word) = quoted word
  form_text (Form.array f) = codes "{\"type\":\"array\",\"items\":" ++ form_text f ++ codes "}"
  form_text (Form.map_of f) = codes "{\"type\":\"map\",\"values\":" ++ form_text f ++ codes "}"
  form_text (Form.union fs) = codes "[" ++ with_commas (form_texts fs) ++ codes "]"
  form_text (Form.record_of name fs) =
      codes "{\"name\":" ++ full_text name ++ codes ",\"type\":\"record\",\"fields\":[" ++ with_commas (field_texts fs) ++ codes "]}"
  form_text (Form.enum name symbols) =
      codes "{\"name\":" ++ full_text name ++ codes ",\"type\":\"enum\",\"symbols\":[" ++ with_commas (map quoted symbols) ++ codes "]}"
  form_text (Form.fixed name count) =
      codes "{\"name\":" ++ full_text name ++ codes ",\"type\":\"fixed\",\"size\":" ++ decimal count ++ codes "}"
  form_text (Form.reference name) = full_text name

  -- the texts of several forms
  pub form_texts : Forms → List (List ℕ)
  form_texts no_forms = []
  form_texts (form f fs) = form_text f ∷ form_texts fs

  -- the texts of the fields of a record
  pub field_texts : FieldForms → List (List ℕ)
  field_texts no_fields = []
  field_texts (field name f fs) = (codes "{\"name\":" ++ quoted name ++ codes ",\"type\":" ++ form_text f ++ codes "}") ∷ field_texts fs

-- the names that are written once the form was written after some others, the last one first; a type's name counts from
-- the start of its own text
abbrev mutual
  pub written_after : List Name → Form → List Name
  written_after written (Form.primitive word) = written
  written_after written (Form.array f) = written_after written f
  written_after written (Form.map_of f) = written_after written f
  written_after written (Form.union fs) = written_after_all written fs
  written_after written (Form.record_of name fs) = written_after_fields (name ∷ written) fs
  written_after written (Form.enum name symbols) = name ∷ written
  written_after written (Form.fixed name count) = name ∷ written
  written_after written (Form.reference name) = written

  -- the same of several forms, one after another
  pub written_after_all : List Name → Forms → List Name
  written_after_all written no_forms = written
  written_after_all written (form f fs) = written_after_all (written_after written f) fs

  -- the same of the fields of a record
  pub written_after_fields : List Name → FieldForms → List Name
  written_after_fields written no_fields = written
  written_after_fields written (field name f fs) = written_after_fields (written_after written f) fs
