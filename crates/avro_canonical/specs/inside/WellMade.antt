-- What holds of the form of a schema, where some names are written before it: its names are fullnames, a definition's
-- is new, a reference's is written; and its parts meet the rules of "Schema Declaration" (Avro 1.11).
use Rattle.std.specs.Prelude.{◌≡◌, ℕ, Bool, true, false, ◌&&◌, List, [], ◌∷◌, Option, Some, None, codes, bytes_eq, length, nat_lt, nat_le, is_some, filter_map, if◌then◌else◌}
use Rattle.std.specs.List.{list_all}
use Rattle.avro_name.specs.Name.{Name, is_full_name, is_simple_name}
use Rattle.avro_schema.specs.Node.{Node}
use Rattle.avro_schema.specs.Distinct.{are_distinct}
use Rattle.avro_schema.specs.WellFormed.{BranchKind, named, branch_kind, same_kind, is_enum, max_count}
use Rattle.avro_canonical.specs.Form.{Form, Forms, FieldForms, no_forms, form, no_fields, field, written_after}
use Rattle.avro_canonical.specs.Canonical.{primitive_word, is_among}

-- the node of a primitive type's word
abbrev pub node_of_word : List ℕ → Node
node_of_word word =
    if bytes_eq word (codes "null") then Node.null
    else (if bytes_eq word (codes "boolean") then Node.boolean
    else (if bytes_eq word (codes "int") then Node.int
    else (if bytes_eq word (codes "long") then Node.long
    else (if bytes_eq word (codes "bytes") then Node.bytes
    else Node.string))))

-- the kind of a union's branch
abbrev pub form_kind : Form → Option BranchKind
form_kind (Form.primitive word) = branch_kind (node_of_word word)
form_kind (Form.array f) = branch_kind (Node.array 0)
form_kind (Form.map_of f) = branch_kind (Node.map_of 0)
form_kind (Form.union fs) = None
form_kind (Form.record_of name fs) = Some (named name)
form_kind (Form.enum name symbols) = Some (named name)
form_kind (Form.fixed name count) = Some (named name)
form_kind (Form.reference name) = Some (named name)

abbrev pub form_kinds : Forms → List (Option BranchKind)
form_kinds no_forms = []
form_kinds (form f fs) = form_kind f ∷ form_kinds fs

-- there is a branch, each has a kind, and no two have one
abbrev pub are_branches : List (Option BranchKind) → Bool
are_branches kinds = nat_lt 0 (length kinds) && list_all is_some kinds && are_distinct same_kind (filter_map (λ kind. kind) kinds)

abbrev pub names_of : FieldForms → List (List ℕ)
names_of no_fields = []
names_of (field name f fs) = name ∷ names_of fs

abbrev pub are_names : List (List ℕ) → Bool
are_names names = list_all is_simple_name names && are_distinct bytes_eq names

abbrev mutual
  pub WellMade : List Name → Form → Type 0
  WellMade written (Form.primitive word) = primitive_word (node_of_word word) ≡ Some word
  WellMade written (Form.array f) = WellMade written f
  WellMade written (Form.map_of f) = WellMade written f
  WellMade written (Form.union fs) = (are_branches (form_kinds fs) ≡ true) × AreWellMade written fs
  WellMade written (Form.record_of name fs) =
      (is_among name written ≡ false) × (is_full_name name ≡ true) × (are_names (names_of fs) ≡ true) × FieldsWellMade (name ∷ written) fs
  WellMade written (Form.enum name symbols) = (is_among name written ≡ false) × (is_full_name name ≡ true) × (is_enum symbols None ≡ true)
  WellMade written (Form.fixed name count) = (is_among name written ≡ false) × (is_full_name name ≡ true) × (nat_le count max_count ≡ true)
  WellMade written (Form.reference name) = (is_among name written ≡ true) × (is_full_name name ≡ true)

  pub AreWellMade : List Name → Forms → Type 0
  AreWellMade written no_forms = Unit {0}
  AreWellMade written (form f fs) = WellMade written f × AreWellMade (written_after written f) fs

  pub FieldsWellMade : List Name → FieldForms → Type 0
  FieldsWellMade written no_fields = Unit {0}
  FieldsWellMade written (field name f fs) = WellMade written f × FieldsWellMade (written_after written f) fs
