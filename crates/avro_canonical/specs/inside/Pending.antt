-- What is left to write while a canonical text is made: a list of parts, the next one first.
use Rattle.std.specs.Prelude.{◌≡◌, ℕ, Bool, false, List, [], ◌∷◌, ◌++◌, map, reverse, codes, decimal, Option, Some, None}
use Rattle.avro_name.specs.Name.{Name}
use Rattle.avro_schema.specs.Node.{Node, FieldNode, node_at, node_name}
use Rattle.avro_schema.specs.Seen.{ids_of, seen_fields}
use Rattle.avro_canonical.specs.Form.{Form, Forms, FieldForms, quoted, full_text, with_commas, form_text, form_texts, field_texts, after_commas, written_after, written_after_all, written_after_fields}
use Rattle.avro_canonical.specs.Canonical.{IsForm, AreForms, AreFieldForms, is_among}
use Rattle.avro_canonical.specs.declared.part.Part.{Part}

pub data Pending : Type 0 where
  -- a node
  of_node : ℕ → Pending
  -- branches after another one, and the end of their union
  branches : List ℕ → Pending
  -- fields after another one, and the end of their record
  fields : List FieldNode → Pending
  -- the end of an array, a map or a field
  end : Pending

abbrev pub pending_of : Part → Pending
pending_of (Part.Node id) = of_node id.0
pending_of (Part.Branches ids) = branches (ids_of ids.now)
pending_of (Part.Fields fs) = fields (seen_fields fs.now)
pending_of Part.End = end

-- the parts, of which the last is the next one
abbrev pub pendings_of : List Part → List Pending
pendings_of parts = reverse (map pending_of parts)

-- the text of what is left, where some names are written
abbrev pub IsLeft : List Node → List Name → List Pending → List ℕ → Type 0
IsLeft nodes written [] text = text ≡ []
IsLeft nodes written (of_node p ∷ ps) text =
    (f : Form) × (rest : List ℕ) × IsForm nodes written (node_at nodes p) f × IsLeft nodes (written_after written f) ps rest
    × (text ≡ form_text f ++ rest)
IsLeft nodes written (branches ids ∷ ps) text =
    (fs : Forms) × (rest : List ℕ) × AreForms nodes written ids fs × IsLeft nodes (written_after_all written fs) ps rest
    × (text ≡ after_commas (form_texts fs) ++ codes "]" ++ rest)
IsLeft nodes written (fields xs ∷ ps) text =
    (fs : FieldForms) × (rest : List ℕ) × AreFieldForms nodes written xs fs × IsLeft nodes (written_after_fields written fs) ps rest
    × (text ≡ after_commas (field_texts fs) ++ codes "]}" ++ rest)
IsLeft nodes written (end ∷ ps) text = (rest : List ℕ) × IsLeft nodes written ps rest × (text ≡ codes "}" ++ rest)

abbrev pub is_name_written : List Name → Option Name → Bool
is_name_written written None = false
is_name_written written (Some name) = is_among name written

-- whether a node is a type whose name is written
abbrev pub is_written : List Name → Node → Bool
is_written written n = is_name_written written (node_name n)

-- a mark for each node: whether its name is written
abbrev pub marks_of : List Name → List Node → List Bool
marks_of written nodes = map (is_written written) nodes

-- what a field begins with, and what is left of it and those after it
abbrev pub opening_of_first : List FieldNode → List ℕ
opening_of_first [] = []
opening_of_first (x ∷ xs) = codes "{\"name\":" ++ quoted x.name ++ codes ",\"type\":"

abbrev pub first_field : List FieldNode → List Pending
first_field [] = fields [] ∷ []
first_field (x ∷ xs) = of_node x.node ∷ end ∷ fields xs ∷ []

abbrev pub first_branch : List ℕ → List Pending
first_branch [] = branches [] ∷ []
first_branch (p ∷ ps) = of_node p ∷ branches ps ∷ []

-- the head of a definition, with the word of its type
abbrev pub head_text : Name → List ℕ → List ℕ
head_text name word = codes "{\"name\":" ++ full_text name ++ codes ",\"type\":" ++ quoted word

-- what is before a branch that is not the first one, or at the end of a union
abbrev pub before_branch : List ℕ → List ℕ
before_branch [] = codes "]"
before_branch (p ∷ ps) = codes ","

abbrev pub next_branch : List ℕ → List Pending
next_branch [] = []
next_branch (p ∷ ps) = first_branch (p ∷ ps)

-- and the same of fields
abbrev pub before_field : List FieldNode → List ℕ
before_field [] = codes "]}"
before_field (x ∷ xs) = codes "," ++ opening_of_first (x ∷ xs)

abbrev pub following_fields : List FieldNode → List Pending
following_fields [] = []
following_fields (x ∷ xs) = first_field (x ∷ xs)

-- what the form of a node begins with where it is not its name alone
abbrev pub opening_of : Node → List ℕ
opening_of Node.null = codes "\"null\""
opening_of Node.boolean = codes "\"boolean\""
opening_of Node.int = codes "\"int\""
opening_of Node.long = codes "\"long\""
opening_of Node.bytes = codes "\"bytes\""
opening_of Node.string = codes "\"string\""
opening_of (Node.array p) = codes "{\"type\":\"array\",\"items\":"
opening_of (Node.map_of p) = codes "{\"type\":\"map\",\"values\":"
opening_of (Node.union ps) = codes "["
opening_of (Node.record_of name aliases xs) = head_text name (codes "record") ++ codes ",\"fields\":[" ++ opening_of_first xs
opening_of (Node.enum name aliases symbols default) =
    head_text name (codes "enum") ++ codes ",\"symbols\":[" ++ with_commas (map quoted symbols) ++ codes "]}"
opening_of (Node.fixed name aliases count) = head_text name (codes "fixed") ++ codes ",\"size\":" ++ decimal count ++ codes "}"

-- and what is left of it then
abbrev pub parts_of : Node → List Pending
parts_of (Node.array p) = of_node p ∷ end ∷ []
parts_of (Node.map_of p) = of_node p ∷ end ∷ []
parts_of (Node.union ps) = first_branch ps
parts_of (Node.record_of name aliases xs) = first_field xs
parts_of _ = []

-- From some marks, parts and text to others: what is left then, after the text then, is what was left, after the
-- text that was.
abbrev pub IsStep : List Node → List Bool → List Pending → List ℕ → List Bool → List Pending → List ℕ → Type 0
IsStep nodes marks before old marks-then after new =
    (written : List Name) → marks ≡ marks_of written nodes → (written-then : List Name) × (marks-then ≡ marks_of written-then nodes)
    × ((rest : List ℕ) → IsLeft nodes written-then after rest → (more : List ℕ) × IsLeft nodes written before more × (old ++ more ≡ new ++ rest))
