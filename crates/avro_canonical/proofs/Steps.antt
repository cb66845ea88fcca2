-- From what is left after a step to what was left before it.
use Rattle.std.proofs.Common.{◌≡◌, ℕ, List, [], ◌∷◌, ◌++◌, refl, ap, false, Some, None, Option, map, codes, decimal}
use Rattle.avro_name.specs.Name.{Name}
use Rattle.avro_schema.specs.Node.{Node, FieldNode, node_name}
use Rattle.avro_canonical.specs.Form.{Form, no_forms, form, no_fields, field, full_text, quoted, form_text, form_texts, field_texts, after_commas, with_commas, written_after}
use Rattle.avro_canonical.specs.Canonical.{IsForm, is_among, no_branch, branch, no_field, next_field}
use Rattle.avro_canonical.specs.inside.Pending.{Pending, of_node, branches, fields, end, IsLeft, is_written, opening_of, opening_of_first, parts_of, first_field, first_branch}
use Rattle.std.proofs.lemmas.List.{append_assoc, append-nil}

around : (a t c last rest r : List ℕ) → rest ≡ t ++ r → r ≡ c ++ last → a ++ rest ≡ (a ++ t ++ c) ++ last
around a t c last rest r spelled ended = rw (spelled, ended) simp append_assoc refl

around_both : (o t u c l rest r : List ℕ) → rest ≡ t ++ r → r ≡ u ++ c ++ l → o ++ rest ≡ (o ++ (t ++ u) ++ c) ++ l
around_both o t u c l rest r spelled ended = rw (spelled, ended) simp append_assoc refl

around_none : (a n t q b tqb c l rest : List ℕ) → t ++ q ++ b ≡ tqb → rest ≡ c ++ l → (a ++ n ++ t ++ q ++ b ++ []) ++ rest ≡ (a ++ n ++ tqb ++ [] ++ c) ++ l
around_none a n t q b tqb c l rest same spelled = rw (spelled, ← same) simp (append_assoc, append-nil) refl

around_field : (a n t q b tqb g x y f e u c l rest r s : List ℕ) → t ++ q ++ b ≡ tqb → rest ≡ f ++ r → r ≡ e ++ s → s ≡ u ++ c ++ l
    → (a ++ n ++ t ++ q ++ b ++ (g ++ x ++ y)) ++ rest ≡ (a ++ n ++ tqb ++ ((g ++ x ++ y ++ f ++ e) ++ u) ++ c) ++ l
around_field a n t q b tqb g x y f e u c l rest r s same spelled ended closed = rw (spelled, ended, closed, ← same) simp append_assoc refl

around_whole : (a n t q b tqb x c : List ℕ) → t ++ q ++ b ≡ tqb → a ++ n ++ t ++ q ++ b ++ x ++ c ≡ a ++ n ++ tqb ++ x ++ c
around_whole a n t q b tqb x c same = rw (← same) simp append_assoc refl

around_next : (o f u c l rest r : List ℕ) → rest ≡ f ++ r → r ≡ u ++ c ++ l → o ++ rest ≡ (o ++ f ++ u) ++ c ++ l
around_next o f u c l rest r spelled ended = rw (spelled, ended) simp append_assoc refl

around_next_field : (o g x y f e u c l rest r s : List ℕ) → rest ≡ f ++ r → r ≡ e ++ s → s ≡ u ++ c ++ l
    → o ++ (g ++ x ++ y) ++ rest ≡ (o ++ (g ++ x ++ y ++ f ++ e) ++ u) ++ c ++ l
around_next_field o g x y f e u c l rest r s spelled ended closed = rw (spelled, ended, closed) simp append_assoc refl

-- the names that are written once a node is begun
abbrev pub begun_name : List Name → Option Name → List Name
begun_name written None = written
begun_name written (Some name) = name ∷ written

abbrev pub begun : List Name → Node → List Name
begun written n = begun_name written (node_name n)

abbrev pub Opened : List Node → List Name → Node → List Pending → List ℕ → Type 0
Opened nodes written n ps rest =
    (f : Form) × (later : List ℕ) × IsForm nodes written n f × IsLeft nodes (written_after written f) ps later
    × (opening_of n ++ rest ≡ form_text f ++ later)

opened_array : (nodes : List Node) (written : List Name) (p : ℕ) (ps : List Pending) (rest : List ℕ)
    → IsLeft nodes written (of_node p ∷ end ∷ ps) rest → Opened nodes written (Node.array p) ps rest
opened_array nodes written p ps rest (f, r, formed, (last, left, ended), spelled) =
    (Form.array f, last, IsForm.array formed, left, around (opening_of (Node.array p)) (form_text f) (codes "}") last rest r spelled ended)

opened_map : (nodes : List Node) (written : List Name) (p : ℕ) (ps : List Pending) (rest : List ℕ)
    → IsLeft nodes written (of_node p ∷ end ∷ ps) rest → Opened nodes written (Node.map_of p) ps rest
opened_map nodes written p ps rest (f, r, formed, (last, left, ended), spelled) =
    (Form.map_of f, last, IsForm.map_of formed, left, around (opening_of (Node.map_of p)) (form_text f) (codes "}") last rest r spelled ended)

opened_union : (nodes : List Node) (written : List Name) (qs : List ℕ) (ps : List Pending) (rest : List ℕ)
    → IsLeft nodes written (first_branch qs ++ ps) rest → Opened nodes written (Node.union qs) ps rest
opened_union nodes written [] ps rest (no_forms, later, formed, left, spelled) =
    (Form.union no_forms, later, IsForm.union formed, left, ap (λ t. codes "[" ++ t) spelled)
opened_union nodes written [] ps rest (form f fs, later, formed, left, spelled) = elim formed [ ]
opened_union nodes written (q ∷ qs) ps rest (f, r, formed, (fs, later, others, left, closed), spelled) = (
  Form.union (form f fs),
  later,
  IsForm.union (branch formed others),
  left,
  around_both (codes "[") (form_text f) (after_commas (form_texts fs)) (codes "]") later rest r spelled closed,
)

opened_record : (nodes : List Node) (written : List Name) (name : Name) (aliases : List Name) (xs : List FieldNode) (ps : List Pending) (rest : List ℕ)
    → is_among name written ≡ false → IsLeft nodes (name ∷ written) (first_field xs ++ ps) rest → Opened nodes written (Node.record_of name aliases xs) ps rest
opened_record nodes written name aliases [] ps rest new (no_fields, later, formed, left, spelled) = (
  Form.record_of name no_fields,
  later,
  IsForm.record_of new formed,
  left,
  around_none (codes "{\"name\":") (full_text name) (codes ",\"type\":") (quoted (codes "record")) (codes ",\"fields\":[")
      (codes ",\"type\":\"record\",\"fields\":[") (codes "]}") later rest refl spelled,
)
opened_record nodes written name aliases [] ps rest new (field n f fs, later, formed, left, spelled) = elim formed [ ]
opened_record nodes written name aliases (x ∷ xs) ps rest new (f, r, formed, (s, (fs, later, others, left, closed), ended), spelled) = (
  Form.record_of name (field x.name f fs),
  later,
  IsForm.record_of new (next_field formed others),
  left,
  around_field (codes "{\"name\":") (full_text name) (codes ",\"type\":") (quoted (codes "record")) (codes ",\"fields\":[")
      (codes ",\"type\":\"record\",\"fields\":[") (codes "{\"name\":") (quoted x.name) (codes ",\"type\":") (form_text f) (codes "}")
      (after_commas (field_texts fs)) (codes "]}") later rest r s refl spelled ended closed,
)

-- what a node begins with is written: its parts are left
pub opened : (nodes : List Node) (written : List Name) (n : Node) (ps : List Pending) (rest : List ℕ) → is_written written n ≡ false
    → IsLeft nodes (begun written n) (parts_of n ++ ps) rest → Opened nodes written n ps rest
opened nodes written Node.null ps rest new left = (Form.primitive (codes "null"), rest, IsForm.primitive refl, left, refl)
opened nodes written Node.boolean ps rest new left = (Form.primitive (codes "boolean"), rest, IsForm.primitive refl, left, refl)
opened nodes written Node.int ps rest new left = (Form.primitive (codes "int"), rest, IsForm.primitive refl, left, refl)
opened nodes written Node.long ps rest new left = (Form.primitive (codes "long"), rest, IsForm.primitive refl, left, refl)
opened nodes written Node.bytes ps rest new left = (Form.primitive (codes "bytes"), rest, IsForm.primitive refl, left, refl)
opened nodes written Node.string ps rest new left = (Form.primitive (codes "string"), rest, IsForm.primitive refl, left, refl)
opened nodes written (Node.array p) ps rest new left = opened_array nodes written p ps rest left
opened nodes written (Node.map_of p) ps rest new left = opened_map nodes written p ps rest left
opened nodes written (Node.union qs) ps rest new left = opened_union nodes written qs ps rest left
opened nodes written (Node.record_of name aliases xs) ps rest new left = opened_record nodes written name aliases xs ps rest new left
opened nodes written (Node.enum name aliases symbols default) ps rest new left = (
  Form.enum name symbols,
  rest,
  IsForm.enum new,
  left,
  ap (λ t. t ++ rest) (around_whole (codes "{\"name\":") (full_text name) (codes ",\"type\":") (quoted (codes "enum")) (codes ",\"symbols\":[")
      (codes ",\"type\":\"enum\",\"symbols\":[") (with_commas (map quoted symbols)) (codes "]}") refl),
)
opened nodes written (Node.fixed name aliases count) ps rest new left = (
  Form.fixed name count,
  rest,
  IsForm.fixed new,
  left,
  ap (λ t. t ++ rest) (around_whole (codes "{\"name\":") (full_text name) (codes ",\"type\":") (quoted (codes "fixed")) (codes ",\"size\":")
      (codes ",\"type\":\"fixed\",\"size\":") (decimal count) (codes "}") refl),
)

-- an end, a comma before a branch and one before a field
pub passed_end : (nodes : List Node) (written : List Name) (ps : List Pending) (rest : List ℕ) → IsLeft nodes written ps rest
    → IsLeft nodes written (end ∷ ps) (codes "}" ++ rest)
passed_end nodes written ps rest left = (rest, left, refl)

pub passed_branches : (nodes : List Node) (written : List Name) (ps : List Pending) (rest : List ℕ) → IsLeft nodes written ps rest
    → IsLeft nodes written (branches [] ∷ ps) (codes "]" ++ rest)
passed_branches nodes written ps rest left = (no_forms, rest, no_branch, left, refl)

pub passed_branch : (nodes : List Node) (written : List Name) (q : ℕ) (qs : List ℕ) (ps : List Pending) (rest : List ℕ)
    → IsLeft nodes written (of_node q ∷ branches qs ∷ ps) rest → IsLeft nodes written (branches (q ∷ qs) ∷ ps) (codes "," ++ rest)
passed_branch nodes written q qs ps rest (f, r, formed, (fs, later, others, left, closed), spelled) = (
  form f fs,
  later,
  branch formed others,
  left,
  around_next (codes ",") (form_text f) (after_commas (form_texts fs)) (codes "]") later rest r spelled closed,
)

pub passed_fields : (nodes : List Node) (written : List Name) (ps : List Pending) (rest : List ℕ) → IsLeft nodes written ps rest
    → IsLeft nodes written (fields [] ∷ ps) (codes "]}" ++ rest)
passed_fields nodes written ps rest left = (no_fields, rest, no_field, left, refl)

pub passed_field : (nodes : List Node) (written : List Name) (x : FieldNode) (xs : List FieldNode) (ps : List Pending) (rest : List ℕ)
    → IsLeft nodes written (of_node x.node ∷ end ∷ fields xs ∷ ps) rest
    → IsLeft nodes written (fields (x ∷ xs) ∷ ps) (codes "," ++ opening_of_first (x ∷ xs) ++ rest)
passed_field nodes written x xs ps rest (f, r, formed, (s, (fs, later, others, left, closed), ended), spelled) = (
  field x.name f fs,
  later,
  next_field formed others,
  left,
  around_next_field (codes ",") (codes "{\"name\":") (quoted x.name) (codes ",\"type\":") (form_text f) (codes "}")
      (after_commas (field_texts fs)) (codes "]}") later rest r s spelled ended closed,
)
