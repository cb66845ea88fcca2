-- Each step of writing: what is left then, after the text then, is what was left, after the text that was.
use Rattle.std.proofs.Common.{arith, subst, ◌≡◌, ℕ, List, [], ◌∷◌, ◌++◌, refl, ◌∙◌, sym, true, false, Bool, Some, None, map, codes, slice_set, slice_get, unwrap_or}
use Rattle.std.specs.Prelude.{Result, OnOk}
use Rattle.std.proofs.lemmas.Option.{slice_get-map}
use Rattle.std.proofs.lemmas.List.{append_assoc, append-nil}
use Rattle.avro_name.specs.Name.{Name}
use Rattle.avro_schema.specs.Node.{Node, FieldNode, node_at, node_name}
use Rattle.avro_schema.specs.WellFormed.{is_schema}
use Rattle.avro_schema.proofs.public.GoodNodes.{names_apart}
use Rattle.avro_canonical.specs.Form.{Form, full_text}
use Rattle.avro_canonical.specs.Canonical.{IsForm, IsCanonical, is_among}
use Rattle.avro_canonical.specs.inside.Pending.{Pending, of_node, branches, fields, end, IsLeft, IsStep, marks_of, opening_of, parts_of, before_branch, next_branch, before_field, following_fields}
use Rattle.avro_canonical.proofs.NamesWritten.{marked, marks-seen, named-at}
use Rattle.avro_canonical.proofs.Steps.{begun_name, opened, passed_end, passed_branches, passed_branch, passed_fields, passed_field}

-- its mark says whether its name is written
mark-at : (written : List Name) (nodes : List Node) (p : ℕ) (name : Name) → slice_get (map node_name nodes) p ≡ Some (Some name)
    → unwrap_or (slice_get (marks_of written nodes) p) false ≡ is_among name written
mark-at written nodes p name at = grind (arith, marks-seen, slice_get-map)

pub step-unnamed : (nodes : List Node) (marks : List Bool) (p : ℕ) (n : Node) (ps : List Pending) (old : List ℕ) → n ≡ node_at nodes p → node_name n ≡ None
    → IsStep nodes marks (of_node p ∷ ps) old marks (parts_of n ++ ps) (old ++ opening_of n)
step-unnamed nodes marks p n ps old here none written seen = (
  written,
  seen,
  λ rest left.
      let o = opened nodes written n ps rest (rw none refl) (subst (λ name. IsLeft nodes (begun_name written name) (parts_of n ++ ps) rest) (sym none) left) in
      (opening_of n ++ rest, (o.0, o.1, subst (λ m. IsForm nodes written m o.0) here o.2, o.3, o.4), sym (append_assoc old (opening_of n) rest)),
)

pub step-again : (nodes : List Node) (marks : List Bool) (p : ℕ) (n : Node) (name : Name) (ps : List Pending) (old : List ℕ) → n ≡ node_at nodes p → node_name n ≡ Some name
    → unwrap_or (slice_get marks p) false ≡ true → IsStep nodes marks (of_node p ∷ ps) old marks ps (old ++ full_text name)
step-again nodes marks p n name ps old here named set written seen =
    let there : node_name (node_at nodes p) ≡ Some name = subst (λ m. node_name m ≡ Some name) here named in
    let among : is_among name written ≡ true = sym (mark-at written nodes p name (named-at nodes p name there)) ∙ subst (λ ms. unwrap_or (slice_get ms p) false ≡ true) seen set in
    (written, seen, λ rest left. (full_text name ++ rest, (Form.reference name, rest, IsForm.again there among, left, refl), sym (append_assoc old (full_text name) rest)))

pub step-new : (nodes : List Node) (marks : List Bool) (p : ℕ) (n : Node) (name : Name) (ps : List Pending) (old : List ℕ) → is_schema nodes ≡ true → n ≡ node_at nodes p
    → node_name n ≡ Some name → unwrap_or (slice_get marks p) false ≡ false → IsStep nodes marks (of_node p ∷ ps) old (slice_set marks p true) (parts_of n ++ ps) (old ++ opening_of n)
step-new nodes marks p n name ps old formed here named clear written seen =
    let there : node_name (node_at nodes p) ≡ Some name = subst (λ m. node_name m ≡ Some name) here named in
    let at : slice_get (map node_name nodes) p ≡ Some (Some name) = named-at nodes p name there in
    let new : is_among name written ≡ false = sym (mark-at written nodes p name at) ∙ subst (λ ms. unwrap_or (slice_get ms p) false ≡ false) seen clear in (
      name ∷ written,
      subst (λ ms. slice_set ms p true ≡ marks_of (name ∷ written) nodes) (sym seen) (marked written name nodes p (names_apart nodes formed) at),
      λ rest left.
          let o = opened nodes written n ps rest (rw named new) (subst (λ it. IsLeft nodes (begun_name written it) (parts_of n ++ ps) rest) (sym named) left) in
          (opening_of n ++ rest, (o.0, o.1, subst (λ m. IsForm nodes written m o.0) here o.2, o.3, o.4), sym (append_assoc old (opening_of n) rest)),
    )

pub step-branches : (nodes : List Node) (marks : List Bool) (qs : List ℕ) (ps : List Pending) (old : List ℕ)
    → IsStep nodes marks (branches qs ∷ ps) old marks (next_branch qs ++ ps) (old ++ before_branch qs)
step-branches nodes marks [] ps old written seen =
    (written, seen, λ rest left. (codes "]" ++ rest, passed_branches nodes written ps rest left, sym (append_assoc old (codes "]") rest)))
step-branches nodes marks (q ∷ qs) ps old written seen =
    (written, seen, λ rest left. (codes "," ++ rest, passed_branch nodes written q qs ps rest left, sym (append_assoc old (codes ",") rest)))

pub step-fields : (nodes : List Node) (marks : List Bool) (xs : List FieldNode) (ps : List Pending) (old : List ℕ)
    → IsStep nodes marks (fields xs ∷ ps) old marks (following_fields xs ++ ps) (old ++ before_field xs)
step-fields nodes marks [] ps old written seen =
    (written, seen, λ rest left. (codes "]}" ++ rest, passed_fields nodes written ps rest left, sym (append_assoc old (codes "]}") rest)))
step-fields nodes marks (x ∷ xs) ps old written seen =
    (written, seen, λ rest left. (before_field (x ∷ xs) ++ rest, passed_field nodes written x xs ps rest left, sym (append_assoc old (before_field (x ∷ xs)) rest)))

pub step-end : (nodes : List Node) (marks : List Bool) (ps : List Pending) (old : List ℕ) → IsStep nodes marks (end ∷ ps) old marks ps (old ++ codes "}")
step-end nodes marks ps old written seen =
    (written, seen, λ rest left. (codes "}" ++ rest, passed_end nodes written ps rest left, sym (append_assoc old (codes "}") rest)))

-- what is written so far is before the rest of a canonical text
abbrev pub Begins : List Node → List Bool → List Pending → List ℕ → Type 0
Begins nodes marks ps text =
    (written : List Name) × (marks ≡ marks_of written nodes) × ((rest : List ℕ) → IsLeft nodes written ps rest → IsCanonical nodes (text ++ rest))

pub begins_first : (nodes : List Node) (marks : List Bool) → marks ≡ marks_of [] nodes → Begins nodes marks (of_node 0 ∷ []) []
begins_first nodes marks seen = grind (arith, append-nil)

pub begins_then : (nodes : List Node) (marks : List Bool) (ps : List Pending) (text : List ℕ) (marks-then : List Bool) (then : List Pending) (text-then : List ℕ)
    → Begins nodes marks ps text → IsStep nodes marks ps text marks-then then text-then → Begins nodes marks-then then text-then
begins_then nodes marks ps text marks-then then text-then begins step = grind arith

-- a step from the last part of a text is one from the whole text
pub step-behind : (nodes : List Node) (marks : List Bool) (ps : List Pending) (hashed old : List ℕ) (marks-then : List Bool) (then : List Pending) (new : List ℕ)
    → IsStep nodes marks ps old marks-then then new → IsStep nodes marks ps (hashed ++ old) marks-then then (hashed ++ new)
step-behind nodes marks ps hashed old marks-then then new step written seen = grind (arith, append_assoc)

-- the same of equal marks and texts
pub begins_as : (nodes : List Node) (marks same : List Bool) (ps : List Pending) (text then : List ℕ) → marks ≡ same → text ≡ then → Begins nodes same ps then → Begins nodes marks ps text
begins_as nodes marks same ps text then e f begins = grind arith

pub begins_last : (nodes : List Node) (marks : List Bool) (ps : List Pending) (text : List ℕ) → ps ≡ [] → Begins nodes marks ps text → IsCanonical nodes text
begins_last nodes marks ps text none (written, seen, begins) =
    subst (λ t. IsCanonical nodes t) (append-nil text) (begins [] (subst (λ qs. IsLeft nodes written qs []) (sym none) refl))

-- a step where the call that it ends with went well
pub ok-step : {E : Type 0} (r : Result (Unit {0}) E) (nodes : List Node) (marks marks-then : List Bool) (before then then-is : List Pending) (old new new-is : List ℕ)
    → OnOk r (new ≡ new-is) → OnOk r (then ≡ then-is) → IsStep nodes marks before old marks-then then-is new-is → OnOk r (IsStep nodes marks before old marks-then then new)
ok-step r nodes marks marks-then before then then-is old new new-is text left step = grind arith

pub ok-text : {E : Type 0} (r : Result (Unit {0}) E) (nodes : List Node) (marks marks-then : List Bool) (before then : List Pending) (old new new-is : List ℕ)
    → OnOk r (new ≡ new-is) → IsStep nodes marks before old marks-then then new-is → OnOk r (IsStep nodes marks before old marks-then then new)
ok-text r nodes marks marks-then before then old new new-is text step = grind arith
