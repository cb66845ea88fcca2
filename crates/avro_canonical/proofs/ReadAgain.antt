-- The tree of a canonical text declares a schema of that text.
use Rattle.std.proofs.Common.{◌↔◌, ◌≡◌, ◌<◌, ◌≤◌, ℕ, suc, ◌+◌, true, false, List, [], ◌∷◌, ◌++◌, Some, None, refl, sym, ap, subst, arith, map, length}
use Rattle.std.specs.List.{list_all}
use Rattle.std.proofs.lemmas.Bool.{and_from, false≢true, lt-ltb, le-leb}
use Rattle.std.proofs.lemmas.List.{append-nil, map-append}
use Rattle.std.proofs.lemmas.List.Folds.{list_all-append}
use Rattle.avro_name.specs.Name.{Name}
use Rattle.avro_schema.specs.Node.{Node, node_at, root_of}
use Rattle.avro_schema.specs.WellFormed.{is_schema, max_nodes}
use Rattle.serde_json.specs.Data.{Data}
use Rattle.serde_json.specs.Written.{has_float, items_have_float}
use Rattle.avro_schema_json.specs.Declares.{Known, Made, made_of, defining}
use Rattle.avro_schema_json.specs.DeclaredSchema.{declared, DeclaresSchema, completed_field, completed_node, completed_nodes, is_default_read, are_defaults_read, are_all_defaults_read, nodes_without_defaults}
use Rattle.avro_canonical.specs.Form.{Form, Forms, FieldForms, no_forms, form, no_fields, field, form_text}
use Rattle.avro_canonical.specs.Canonical.{IsForm, IsCanonical, primitive_word}
use Rattle.avro_canonical.specs.CanonicalTree.{text_items, form_tree, form_trees, field_trees, nodes_in, keeps_names}
use Rattle.avro_canonical.specs.inside.WellMade.{node_of_word, WellMade, AreWellMade, FieldsWellMade}
use Rattle.avro_canonical.specs.inside.Laid.{known_after, laid_id, laid_fields, laid, laid_all, laid_in_fields, raw_field, raw_node, raw_nodes}
use Rattle.avro_schema.proofs.public.GoodNodes.{good_at}
use Rattle.avro_canonical.proofs.FormsWellMade.{well_made}
use Rattle.avro_canonical.proofs.LaidRead.{made, laid_count}
use Rattle.avro_canonical.proofs.FormsRead.{form_read}
use Rattle.avro_canonical.proofs.LaidForms.{laid_form}
use Rattle.avro_canonical.proofs.LaidGood.{good_laid}
use Rattle.avro_canonical.proofs.LaidNames.{laid_distinct}
use Rattle.avro_canonical.proofs.Words.{none_apart}
use Rattle.avro_schema.specs.Value.{Value}
use Rattle.avro_cursor.specs.Encoding.{Encodes}
use Rattle.avro_canonical.proofs.SameEncodings.{same_encodings}

mutual
  whole_floats : (f : Form) → has_float (form_tree f) ≡ false
  whole_floats (Form.array f) = rw (whole_floats f) refl
  whole_floats (Form.map_of f) = rw (whole_floats f) refl
  whole_floats (Form.union fs) = all_floats fs
  whole_floats (Form.record_of name fs) = rw (field_floats fs) refl
  whole_floats (Form.enum name symbols) = rw (text_floats symbols) refl
    where
      text_floats : (texts : List (List ℕ)) → items_have_float (text_items texts) ≡ false
      text_floats [] = refl
      text_floats (text ∷ texts) = text_floats texts
  whole_floats _ = refl

  all_floats : (fs : Forms) → items_have_float (form_trees fs) ≡ false
  all_floats no_forms = refl
  all_floats (form f fs) = rw (whole_floats f) (all_floats fs)

  field_floats : (fs : FieldForms) → items_have_float (field_trees fs) ≡ false
  field_floats no_fields = refl
  field_floats (field name f fs) = rw (whole_floats f) (field_floats fs)

-- the nodes that are laid have no defaults
word_whole : (base : List Node) (n : Node) (word : List ℕ) → primitive_word n ≡ Some word → (completed_node base (raw_node n) ≡ n) × (are_defaults_read base (raw_node n) ≡ true)
word_whole base = grind arith

fields_whole : (base : List Node) (known : Known) (next : ℕ) (fs : FieldForms) → map (completed_field base) (map raw_field (laid_fields known next fs)) ≡ laid_fields known next fs
fields_whole base known next no_fields = refl
fields_whole base known next (field name f fs) =
    ap (λ xs. record { name = name; aliases = []; node = laid_id known next f; default = None } ∷ xs) (fields_whole base (known_after known next f) (next + nodes_in f) fs)

fields_read_whole : (base : List Node) (known : Known) (next : ℕ) (fs : FieldForms) → list_all (is_default_read base) (map raw_field (laid_fields known next fs)) ≡ true
fields_read_whole base known next no_fields = refl
fields_read_whole base known next (field name f fs) = fields_read_whole base (known_after known next f) (next + nodes_in f) fs

-- nodes that are what is read of them
abbrev AreWhole : List Node → List Node → Type 0
AreWhole base nodes = (map (completed_node base) (raw_nodes nodes) ≡ nodes) × (list_all (are_defaults_read base) (raw_nodes nodes) ≡ true)

whole_then : (base : List Node) (n : Node) (nodes : List Node) → completed_node base (raw_node n) ≡ n → are_defaults_read base (raw_node n) ≡ true → AreWhole base nodes → AreWhole base (n ∷ nodes)
whole_then base n nodes one read rest = grind (arith, and_from)

whole_append : (base xs ys : List Node) → AreWhole base xs → AreWhole base ys → AreWhole base (xs ++ ys)
whole_append base xs ys first later = grind (arith, and_from, list_all-append, map-append)

mutual
  laid_whole : (base : List Node) (f : Form) (written : List Name) (known : Known) (next : ℕ) → WellMade written f → AreWhole base (laid known next f)
  laid_whole base (Form.primitive word) written known next good =
      let one = word_whole base (node_of_word word) word good in whole_then base (node_of_word word) [] one.0 one.1 (refl, refl)
  laid_whole base (Form.array f) written known next good = whole_then base _ _ refl refl (laid_whole base f written known (suc next) good)
  laid_whole base (Form.map_of f) written known next good = whole_then base _ _ refl refl (laid_whole base f written known (suc next) good)
  laid_whole base (Form.union fs) written known next good = whole_then base _ _ refl refl (all_whole base fs written known (suc next) good.1)
  laid_whole base (Form.record_of name fs) written known next good =
      whole_then base (Node.record_of name [] (laid_fields (defining name next known) (suc next) fs)) (laid_in_fields (defining name next known) (suc next) fs)
      (ap (λ xs. Node.record_of name [] xs) (fields_whole base (defining name next known) (suc next) fs)) (fields_read_whole base (defining name next known) (suc next) fs)
      (in_fields_whole base fs (name ∷ written) (defining name next known) (suc next) good.3)
  laid_whole base _ written known next good = (refl, refl)

  all_whole : (base : List Node) (fs : Forms) (written : List Name) (known : Known) (next : ℕ) → AreWellMade written fs → AreWhole base (laid_all known next fs)
  all_whole base no_forms written known next good = (refl, refl)
  all_whole base (form f fs) written known next good =
      whole_append base (laid known next f) (laid_all (known_after known next f) (next + nodes_in f) fs) (laid_whole base f written known next good.0)
      (all_whole base fs _ (known_after known next f) (next + nodes_in f) good.1)

  in_fields_whole : (base : List Node) (fs : FieldForms) (written : List Name) (known : Known) (next : ℕ) → FieldsWellMade written fs → AreWhole base (laid_in_fields known next fs)
  in_fields_whole base no_fields written known next good = (refl, refl)
  in_fields_whole base (field name f fs) written known next good =
      whole_append base (laid known next f) (laid_in_fields (known_after known next f) (next + nodes_in f) fs) (laid_whole base f written known next good.0)
      (in_fields_whole base fs _ (known_after known next f) (next + nodes_in f) good.1)

-- the root of a schema is no reference
some_nodes : (f : Form) → WellMade [] f → 0 < nodes_in f
some_nodes (Form.reference name) good = absurd (false≢true good.0)
some_nodes _ good = omega arith

root_id : (f : Form) → laid_id [] 0 f ≡ 0
root_id f = grind arith

laid_schema : (f : Form) → WellMade [] f → nodes_in f ≤ max_nodes → is_schema (laid [] 0 f) ≡ true
laid_schema f good few =
    let nodes = laid [] 0 f in
    let count : length nodes ≡ nodes_in f = laid_count [] 0 f in
    let positive = some_nodes f good in
    and_from _ _
    (and_from _ _ (and_from _ _ (lt-ltb 0 (length nodes) (omega (arith, count, positive))) (le-leb (length nodes) max_nodes (omega (arith, count, few))))
    (good_laid nodes f [] [] 0 [] good (λ name. refl) (λ name p e. absurd (none_apart e)) (sym (append-nil nodes))))
    (laid_distinct f [] 0 good)

declared_as : (tree : Data) (it : Made ℕ) (nodes : List Node) → has_float tree ≡ false → made_of tree ≡ it → it.faults ≡ [] → completed_nodes it.nodes ≡ nodes → is_schema nodes ≡ true
    → are_all_defaults_read it.nodes ≡ true → declared tree ≡ Some nodes
declared_as tree it nodes numbers makes clean whole formed defaults = rw (numbers, makes, clean, whole, formed, defaults) refl

-- the nodes that are laid have the same canonical text
laid_text : (f : Form) (text : List ℕ) → WellMade [] f → text ≡ form_text f → IsCanonical (laid [] 0 f) text
laid_text f text good spelled =
    let again = laid [] 0 f in
    record {
      form = f;
      formed = subst (λ p. IsForm again [] (node_at again p) f) (root_id f)
          (laid_form again f [] [] 0 [] good (λ name. refl) (λ name p e. absurd (none_apart e)) (sym (append-nil again)));
      spelled = spelled;
    }

pub read_again : (nodes : List Node) (text : List ℕ) → is_schema nodes ≡ true → (c : IsCanonical nodes text) → keeps_names [] c.form ≡ true → nodes_in c.form ≤ max_nodes
    → (again : List Node) × DeclaresSchema (form_tree c.form) again × IsCanonical again text
    × ((v : Value) (bytes : List ℕ) → Encodes nodes (root_of nodes) v bytes ↔ Encodes again (root_of again) v bytes)
read_again nodes text formed c kept few =
    let f = c.form in
    let good = well_made formed (good_at nodes formed 0) c.formed in
    let again = laid [] 0 f in
    let whole = laid_whole (nodes_without_defaults (raw_nodes again)) f [] [] 0 good in
    let schema = laid_schema f good few in
    let same = laid_text f text good c.spelled in (
      again,
      declared_as (form_tree f) (made [] 0 f) again (whole_floats f) (form_read f [] [] 0 [] good (λ name. refl) kept (omega (arith, few))) refl whole.0 schema whole.1,
      same,
      same_encodings nodes again text formed schema c same,
    )
