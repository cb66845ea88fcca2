-- Worked canonical forms: computed.
use Rattle.std.proofs.Common.{ℕ, List, [], ◌∷◌, refl, None, codes}
use Rattle.std.specs.Fmt.{digits}
use Rattle.avro_name.specs.Name.{Name}
use Rattle.avro_schema.specs.Node.{Node, FieldNode}
use Rattle.avro_canonical.specs.Form.{Form, no_forms, form, no_fields, field}
use Rattle.avro_canonical.specs.Canonical.{IsForm, IsCanonical, no_branch, branch, no_field, next_field}

abbrev pub named : List ℕ → List ℕ → Name
named namespace simple = record { namespace = namespace; simple = simple }

abbrev pub simply : List ℕ → ℕ → FieldNode
simply name node = record { name = name; aliases = []; node = node; default = None }

int_alone : IsCanonical (Node.int ∷ []) (codes "\"int\"")
int_alone = record { form = Form.primitive (codes "int"); formed = IsForm.primitive refl; spelled = refl }

-- a definition of the null namespace inside one of another: its fullname is its simple part alone
own_namespace : IsCanonical
    (Node.record_of (named (codes "a") (codes "R")) [] (simply (codes "e") 1 ∷ []) ∷ Node.enum (named [] (codes "E")) [] (codes "X" ∷ []) None ∷ [])
    (codes "{\"name\":\"a.R\",\"type\":\"record\",\"fields\":[{\"name\":\"e\",\"type\":{\"name\":\"E\",\"type\":\"enum\",\"symbols\":[\"X\"]}}]}")
own_namespace = record {
  form = Form.record_of (named (codes "a") (codes "R")) (field (codes "e") (Form.enum (named [] (codes "E")) (codes "X" ∷ [])) no_fields);
  formed = IsForm.record_of refl (next_field (IsForm.enum refl) no_field);
  spelled = refl;
}

-- a record inside itself is its name alone
node_of_nodes : IsCanonical
    (Node.record_of (named [] (codes "Node")) [] (simply (codes "value") 1 ∷ simply (codes "next") 2 ∷ []) ∷ Node.int ∷ Node.union (3 ∷ 0 ∷ []) ∷ Node.null ∷ [])
    (codes "{\"name\":\"Node\",\"type\":\"record\",\"fields\":[{\"name\":\"value\",\"type\":\"int\"},{\"name\":\"next\",\"type\":[\"null\",\"Node\"]}]}")
node_of_nodes = record {
  form = Form.record_of (named [] (codes "Node")) (field (codes "value") (Form.primitive (codes "int"))
      (field (codes "next") (Form.union (form (Form.primitive (codes "null")) (form (Form.reference (named [] (codes "Node"))) no_forms))) no_fields));
  formed = IsForm.record_of refl (next_field (IsForm.primitive refl)
      (next_field (IsForm.union (branch (IsForm.primitive refl) (branch (IsForm.again refl refl) no_branch))) no_field));
  spelled = refl;
}

sixteen_bytes : IsCanonical (Node.fixed (named (codes "a") (codes "F")) [] 16 ∷ []) (codes "{\"name\":\"a.F\",\"type\":\"fixed\",\"size\":16}")
unfolding digits
sixteen_bytes = record { form = Form.fixed (named (codes "a") (codes "F")) 16; formed = IsForm.fixed refl; spelled = refl }

-- a fixed in a map in a union, and an array of it after that
fixed_in_map : IsCanonical
    (Node.union (1 ∷ 2 ∷ 4 ∷ []) ∷ Node.null ∷ Node.map_of 3 ∷ Node.fixed (named [] (codes "F")) [] 0 ∷ Node.array 3 ∷ [])
    (codes "[\"null\",{\"type\":\"map\",\"values\":{\"name\":\"F\",\"type\":\"fixed\",\"size\":0}},{\"type\":\"array\",\"items\":\"F\"}]")
unfolding digits
fixed_in_map = record {
  form = Form.union (form (Form.primitive (codes "null")) (form (Form.map_of (Form.fixed (named [] (codes "F")) 0)) (form (Form.array (Form.reference (named [] (codes "F")))) no_forms)));
  formed = IsForm.union (branch (IsForm.primitive refl) (branch (IsForm.map_of (IsForm.fixed refl)) (branch (IsForm.array (IsForm.again refl refl)) no_branch)));
  spelled = refl;
}
