-- The nodes that are laid for a form have that form.
use Rattle.std.proofs.Common.{◌≡◌, ◌⊎◌, inl, inr, ⊎_elim, ℕ, zero, suc, ◌+◌, true, false, cond, List, [], ◌∷◌, ◌++◌, Some, None, refl, sym, ◌∙◌, ap, subst, arith, drop, length, unwrap_or}
use Rattle.std.proofs.lemmas.List.{append_assoc}
use Rattle.avro_name.specs.Name.{Name, same_name}
use Rattle.avro_schema.specs.Node.{Node, node_at, node_name}
use Rattle.avro_schema_json.specs.Declares.{Known, id_of, defining}
use Rattle.avro_canonical.specs.Form.{Form, Forms, FieldForms, no_forms, form, no_fields, field, written_after}
use Rattle.avro_canonical.specs.Canonical.{IsForm, AreForms, AreFieldForms, is_among, no_branch, branch, no_field, next_field}
use Rattle.avro_canonical.specs.CanonicalTree.{nodes_in}
use Rattle.avro_canonical.specs.inside.WellMade.{WellMade, AreWellMade, FieldsWellMade}
use Rattle.avro_canonical.specs.inside.Laid.{known_after, known_after_all, known_after_fields, laid_id, laid_ids, laid_fields, laid, laid_all, laid_in_fields}
use Rattle.avro_canonical.proofs.Words.{some-is}
use Rattle.avro_name.proofs.public.Names.{same_name-is}
use Rattle.avro_canonical.proofs.LaidRead.{IsKnown, known_more, known_then, laid_count, id_is}

-- some nodes are in a list from an id on, and others after them
abbrev pub Stand : List Node → ℕ → List Node → List Node → Type 0
Stand nodes next ns others = drop next nodes ≡ ns ++ others

first_node : {x y : Node} {xs ys : List Node} → x ∷ xs ≡ y ∷ ys → x ≡ y
first_node e = cc

rest_nodes : {x y : Node} {xs ys : List Node} → x ∷ xs ≡ y ∷ ys → xs ≡ ys
rest_nodes e = cc

no_node : {y : Node} {ys : List Node} → [] ≡ y ∷ ys → ⊥
no_node e = cc

pub stand_first : (nodes : List Node) (p : ℕ) (n : Node) (rest : List Node) → drop p nodes ≡ n ∷ rest → (node_at nodes p ≡ n) × (drop (suc p) nodes ≡ rest)
stand_first [] zero n rest e = absurd (no_node e)
stand_first [] _ n rest e = absurd (no_node e)
stand_first (x ∷ xs) zero n rest e = (first_node e, rest_nodes e)
stand_first (x ∷ xs) (suc p) n rest e = stand_first xs p n rest e

stand_behind : (nodes : List Node) (p : ℕ) (xs rest : List Node) → drop p nodes ≡ xs ++ rest → drop (p + length xs) nodes ≡ rest
stand_behind nodes p [] rest e = let at : p + 0 ≡ p = omega arith in ap (λ k. drop k nodes) at ∙ e
stand_behind nodes p (x ∷ xs) rest e =
    let at : p + suc (length xs) ≡ suc p + length xs = omega arith in
    ap (λ k. drop k nodes) at ∙ stand_behind nodes (suc p) xs rest (stand_first nodes p x (xs ++ rest) e).1

-- nodes of a part, and of those after it
pub stand_cut : (nodes : List Node) (next : ℕ) (xs ys others : List Node) (n : ℕ) → length xs ≡ n → Stand nodes next (xs ++ ys) others
    → Stand nodes next xs (ys ++ others) × Stand nodes (next + n) ys others
stand_cut nodes next xs ys others n count e = grind (arith, append_assoc, stand_behind)

-- each name that is known is that of the node of its id
abbrev pub KnownStand : List Node → Known → Type 0
KnownStand nodes known = (name : Name) (p : ℕ) → id_of name known ≡ Some p → node_name (node_at nodes p) ≡ Some name

last_id : (x name : Name) (p q : ℕ) (known : Known) → id_of x (known ++ (name, p) ∷ []) ≡ Some q → (id_of x known ≡ Some q) ⊎ ((same_name x name ≡ true) × (p ≡ q))
last_id x name p q [] e =
    (elim (same_name x name) as (λ b. cond b (Some p) None ≡ Some q → (None ≡ Some q) ⊎ ((b ≡ true) × (p ≡ q))) [
      | true ↦ λ h. inr (refl, some-is h)
      | false ↦ λ h. inl h
    ]) e
last_id x name p q (d ∷ known) e =
    (elim (same_name x d.0) as (λ b. cond b (Some d.1) (id_of x (known ++ (name, p) ∷ [])) ≡ Some q → (cond b (Some d.1) (id_of x known) ≡ Some q) ⊎ ((same_name x name ≡ true) × (p ≡ q))) [
      | true ↦ λ h. inl h
      | false ↦ λ h. last_id x name p q known h
    ]) e

pub stand_defining : (nodes : List Node) (known : Known) (name : Name) (next : ℕ) → KnownStand nodes known → node_name (node_at nodes next) ≡ Some name
    → KnownStand nodes (defining name next known)
stand_defining nodes known name next stands named x p at =
    ⊎_elim (λ before. stands x p before) (λ now. subst (λ q. node_name (node_at nodes q) ≡ Some x) now.1 (named ∙ ap (λ it. Some it) (sym (same_name-is x name now.0))))
    (last_id x name next p known at)

mutual
  pub known_stand : (nodes : List Node) (f : Form) (known : Known) (next : ℕ) (others : List Node) → KnownStand nodes known → Stand nodes next (laid known next f) others
      → KnownStand nodes (known_after known next f)
  known_stand nodes (Form.array f) known next others stands e = known_stand nodes f known (suc next) others stands (stand_first nodes next _ _ e).1
  known_stand nodes (Form.map_of f) known next others stands e = known_stand nodes f known (suc next) others stands (stand_first nodes next _ _ e).1
  known_stand nodes (Form.union fs) known next others stands e = known_stand_all nodes fs known (suc next) others stands (stand_first nodes next _ _ e).1
  known_stand nodes (Form.record_of name fs) known next others stands e =
      let here = stand_first nodes next _ _ e in
      known_stand_fields nodes fs (defining name next known) (suc next) others (stand_defining nodes known name next stands (ap node_name here.0)) here.1
  known_stand nodes (Form.enum name symbols) known next others stands e = stand_defining nodes known name next stands (ap node_name (stand_first nodes next _ _ e).0)
  known_stand nodes (Form.fixed name count) known next others stands e = stand_defining nodes known name next stands (ap node_name (stand_first nodes next _ _ e).0)
  known_stand nodes _ known next others stands e = stands

  pub known_stand_all : (nodes : List Node) (fs : Forms) (known : Known) (next : ℕ) (others : List Node) → KnownStand nodes known → Stand nodes next (laid_all known next fs) others
      → KnownStand nodes (known_after_all known next fs)
  known_stand_all nodes no_forms known next others stands e = stands
  known_stand_all nodes (form f fs) known next others stands e =
      let cut = stand_cut nodes next (laid known next f) (laid_all (known_after known next f) (next + nodes_in f) fs) others (nodes_in f) (laid_count known next f) e in
      known_stand_all nodes fs (known_after known next f) (next + nodes_in f) others (known_stand nodes f known next _ stands cut.0) cut.1

  pub known_stand_fields : (nodes : List Node) (fs : FieldForms) (known : Known) (next : ℕ) (others : List Node) → KnownStand nodes known → Stand nodes next (laid_in_fields known next fs) others
      → KnownStand nodes (known_after_fields known next fs)
  known_stand_fields nodes no_fields known next others stands e = stands
  known_stand_fields nodes (field name f fs) known next others stands e =
      let cut = stand_cut nodes next (laid known next f) (laid_in_fields (known_after known next f) (next + nodes_in f) fs) others (nodes_in f) (laid_count known next f) e in
      known_stand_fields nodes fs (known_after known next f) (next + nodes_in f) others (known_stand nodes f known next _ stands cut.0) cut.1

-- a reference goes to its definition
pub named_there : (nodes : List Node) (written : List Name) (known : Known) (name : Name) → IsKnown written known → KnownStand nodes known → is_among name written ≡ true
    → node_name (node_at nodes (unwrap_or (id_of name known) 0)) ≡ Some name
named_there nodes written known name is stands old = stands name (unwrap_or (id_of name known) 0) (id_is (id_of name known) (is name ∙ old))

mutual
  pub laid_form : (nodes : List Node) (f : Form) (written : List Name) (known : Known) (next : ℕ) (others : List Node) → WellMade written f → IsKnown written known
      → KnownStand nodes known → Stand nodes next (laid known next f) others → IsForm nodes written (node_at nodes (laid_id known next f)) f
  laid_form nodes (Form.primitive word) written known next others good is stands e =
      subst (λ n. IsForm nodes written n (Form.primitive word)) (sym (stand_first nodes next _ _ e).0) (IsForm.primitive good)
  laid_form nodes (Form.array f) written known next others good is stands e =
      let here = stand_first nodes next _ _ e in
      subst (λ n. IsForm nodes written n (Form.array f)) (sym here.0) (IsForm.array (laid_form nodes f written known (suc next) others good is stands here.1))
  laid_form nodes (Form.map_of f) written known next others good is stands e =
      let here = stand_first nodes next _ _ e in
      subst (λ n. IsForm nodes written n (Form.map_of f)) (sym here.0) (IsForm.map_of (laid_form nodes f written known (suc next) others good is stands here.1))
  laid_form nodes (Form.union fs) written known next others good is stands e =
      let here = stand_first nodes next _ _ e in
      subst (λ n. IsForm nodes written n (Form.union fs)) (sym here.0) (IsForm.union (laid_forms nodes fs written known (suc next) others good.1 is stands here.1))
  laid_form nodes (Form.record_of name fs) written known next others good is stands e =
      let here = stand_first nodes next _ _ e in
      subst (λ n. IsForm nodes written n (Form.record_of name fs)) (sym here.0)
      (IsForm.record_of good.0 (laid_field_forms nodes fs (name ∷ written) (defining name next known) (suc next) others good.3 (known_more written known name next is)
      (stand_defining nodes known name next stands (ap node_name here.0)) here.1))
  laid_form nodes (Form.enum name symbols) written known next others good is stands e =
      subst (λ n. IsForm nodes written n (Form.enum name symbols)) (sym (stand_first nodes next _ _ e).0) (IsForm.enum good.0)
  laid_form nodes (Form.fixed name count) written known next others good is stands e =
      subst (λ n. IsForm nodes written n (Form.fixed name count)) (sym (stand_first nodes next _ _ e).0) (IsForm.fixed good.0)
  laid_form nodes (Form.reference name) written known next others good is stands e = IsForm.again (named_there nodes written known name is stands good.0) good.0

  pub laid_forms : (nodes : List Node) (fs : Forms) (written : List Name) (known : Known) (next : ℕ) (others : List Node) → AreWellMade written fs → IsKnown written known
      → KnownStand nodes known → Stand nodes next (laid_all known next fs) others → AreForms nodes written (laid_ids known next fs) fs
  laid_forms nodes no_forms written known next others good is stands e = no_branch
  laid_forms nodes (form f fs) written known next others good is stands e =
      let cut = stand_cut nodes next (laid known next f) (laid_all (known_after known next f) (next + nodes_in f) fs) others (nodes_in f) (laid_count known next f) e in
      branch (laid_form nodes f written known next _ good.0 is stands cut.0)
      (laid_forms nodes fs (written_after written f) (known_after known next f) (next + nodes_in f) others good.1 (known_then written known next f is)
      (known_stand nodes f known next _ stands cut.0) cut.1)

  laid_field_forms : (nodes : List Node) (fs : FieldForms) (written : List Name) (known : Known) (next : ℕ) (others : List Node) → FieldsWellMade written fs → IsKnown written known
      → KnownStand nodes known → Stand nodes next (laid_in_fields known next fs) others → AreFieldForms nodes written (laid_fields known next fs) fs
  laid_field_forms nodes no_fields written known next others good is stands e = no_field
  laid_field_forms nodes (field name f fs) written known next others good is stands e =
      let cut = stand_cut nodes next (laid known next f) (laid_in_fields (known_after known next f) (next + nodes_in f) fs) others (nodes_in f) (laid_count known next f) e in
      next_field (laid_form nodes f written known next _ good.0 is stands cut.0)
      (laid_field_forms nodes fs (written_after written f) (known_after known next f) (next + nodes_in f) others good.1 (known_then written known next f is)
      (known_stand nodes f known next _ stands cut.0) cut.1)
