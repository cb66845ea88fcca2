-- A schema has one canonical text.
use Rattle.std.proofs.Common.{arith, ◌≡◌, ℕ, List, subst, refl, ap, ◌∙◌, sym, true, false, Some}
use Rattle.std.proofs.lemmas.Bool.{false≢true}
use Rattle.std.proofs.lemmas.Option.{none-some}
use Rattle.avro_name.specs.Name.{Name}
use Rattle.avro_schema.specs.Node.{Node, FieldNode, node_name}
use Rattle.avro_canonical.specs.Form.{Form, Forms, FieldForms, form, field, form_text, written_after}
use Rattle.avro_canonical.specs.Canonical.{IsForm, AreForms, AreFieldForms, IsCanonical, primitive_word, is_among, no_branch, branch, no_field, next_field}
use Rattle.avro_canonical.proofs.Words.{some-is}

-- no primitive type has a name
no-name : (n : Node) (word : List ℕ) (name : Name) → primitive_word n ≡ Some word → node_name n ≡ Some name → ⊥
no-name n word name h = grind arith

-- a name is not both written and not
not-both : (own name : Name) (written : List Name) → is_among own written ≡ false → Some own ≡ Some name → is_among name written ≡ true → ⊥
not-both own name written new same old = false≢true (sym new ∙ ap (λ it. is_among it written) (some-is same) ∙ old)

mutual
  one-form : {nodes : List Node} {written : List Name} {n : Node} {f g : Form} → IsForm nodes written n f → IsForm nodes written n g → f ≡ g
  one-form (IsForm.primitive h) (IsForm.primitive k) = ap (λ w. Form.primitive w) (some-is (sym h ∙ k))
  one-form {n = n} (IsForm.primitive h) (IsForm.again k old) = absurd (no-name n _ _ h k)
  one-form (IsForm.primitive h) _ = absurd (none-some _ h)
  one-form (IsForm.again h old) (IsForm.again k more) = ap (λ name. Form.reference name) (some-is (sym h ∙ k))
  one-form {n = n} (IsForm.again h old) (IsForm.primitive k) = absurd (no-name n _ _ k h)
  one-form (IsForm.again h old) (IsForm.record_of k es) = absurd (not-both _ _ _ k h old)
  one-form (IsForm.again h old) (IsForm.enum k) = absurd (not-both _ _ _ k h old)
  one-form (IsForm.again h old) (IsForm.fixed k) = absurd (not-both _ _ _ k h old)
  one-form (IsForm.again h old) _ = absurd (none-some _ h)
  one-form (IsForm.array d) (IsForm.array e) = ap (λ f. Form.array f) (one-form d e)
  one-form (IsForm.map_of d) (IsForm.map_of e) = ap (λ f. Form.map_of f) (one-form d e)
  one-form (IsForm.union ds) (IsForm.union es) = ap (λ fs. Form.union fs) (one-form_all ds es)
  one-form (IsForm.record_of {name = name} h ds) (IsForm.record_of k es) = ap (λ fs. Form.record_of name fs) (one-form_fields ds es)
  one-form (IsForm.record_of h ds) (IsForm.again k old) = absurd (not-both _ _ _ h k old)
  one-form (IsForm.enum h) (IsForm.enum k) = refl
  one-form (IsForm.enum h) (IsForm.again k old) = absurd (not-both _ _ _ h k old)
  one-form (IsForm.fixed h) (IsForm.fixed k) = refl
  one-form (IsForm.fixed h) (IsForm.again k old) = absurd (not-both _ _ _ h k old)
  one-form _ (IsForm.primitive k) = absurd (none-some _ k)
  one-form _ (IsForm.again k old) = absurd (none-some _ k)

  one-form_all : {nodes : List Node} {written : List Name} {ids : List ℕ} {fs gs : Forms} → AreForms nodes written ids fs → AreForms nodes written ids gs → fs ≡ gs
  one-form_all no_branch no_branch = refl
  one-form_all {nodes = nodes} {written = written} (branch {ids = ids} {f = f} {fs = fs} d ds) (branch {f = g} {fs = gs} e es) =
      let first : f ≡ g = one-form d e in
      let there : AreForms nodes (written_after written f) ids gs = subst (λ it. AreForms nodes (written_after written it) ids gs) (sym first) es in
      ap (λ it. form it fs) first ∙ ap (λ rest. form g rest) (one-form_all ds there)

  one-form_fields : {nodes : List Node} {written : List Name} {xs : List FieldNode} {fs gs : FieldForms} → AreFieldForms nodes written xs fs → AreFieldForms nodes written xs gs → fs ≡ gs
  one-form_fields no_field no_field = refl
  one-form_fields {nodes = nodes} {written = written} (next_field {x = x} {xs = xs} {f = f} {fs = fs} d ds) (next_field {f = g} {fs = gs} e es) =
      let first : f ≡ g = one-form d e in
      let there : AreFieldForms nodes (written_after written f) xs gs = subst (λ it. AreFieldForms nodes (written_after written it) xs gs) (sym first) es in
      ap (λ it. field x.name it fs) first ∙ ap (λ rest. field x.name g rest) (one-form_fields ds there)

pub one_text : (nodes : List Node) (a b : List ℕ) → IsCanonical nodes a → IsCanonical nodes b → a ≡ b
one_text nodes a b x y = x.spelled ∙ ap (λ f. form_text f) (one-form x.formed y.formed) ∙ sym y.spelled
