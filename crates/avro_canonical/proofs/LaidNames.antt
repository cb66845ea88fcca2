-- The names that are laid for a form are distinct.
use Rattle.std.proofs.Common.{◌≡◌, ℕ, suc, ◌+◌, true, false, ◌||◌, List, [], ◌∷◌, ◌++◌, Some, None, refl, sym, ◌∙◌, ap, subst, filter_map}
use Rattle.std.specs.List.{list_any}
use Rattle.std.proofs.lemmas.Bool.{and_from, false≢true, not_from_false, or_right}
use Rattle.std.proofs.lemmas.List.Elements.{filter_map-append}
use Rattle.avro_name.specs.Name.{Name, same_name}
use Rattle.avro_schema.specs.Node.{Node, node_name}
use Rattle.avro_schema.specs.Distinct.{are_distinct}
use Rattle.avro_schema_json.specs.Declares.{Known, defining}
use Rattle.avro_canonical.specs.Form.{Form, Forms, FieldForms, no_forms, form, no_fields, field, written_after, written_after_all, written_after_fields}
use Rattle.avro_canonical.specs.Canonical.{primitive_word, is_among}
use Rattle.avro_canonical.specs.CanonicalTree.{nodes_in}
use Rattle.avro_canonical.specs.inside.WellMade.{node_of_word, WellMade, AreWellMade, FieldsWellMade}
use Rattle.avro_canonical.specs.inside.Laid.{known_after, laid, laid_all, laid_in_fields}
use Rattle.avro_name.proofs.public.Names.{same_name-self, same_name-is}
use Rattle.avro_canonical.proofs.Words.{by_word}

-- the names that a form defines, in order
abbrev mutual
  defined_in : Form → List Name
  defined_in (Form.array f) = defined_in f
  defined_in (Form.map_of f) = defined_in f
  defined_in (Form.union fs) = defined_in_all fs
  defined_in (Form.record_of name fs) = name ∷ defined_in_fields fs
  defined_in (Form.enum name symbols) = name ∷ []
  defined_in (Form.fixed name count) = name ∷ []
  defined_in _ = []

  defined_in_all : Forms → List Name
  defined_in_all no_forms = []
  defined_in_all (form f fs) = defined_in f ++ defined_in_all fs

  defined_in_fields : FieldForms → List Name
  defined_in_fields no_fields = []
  defined_in_fields (field name f fs) = defined_in f ++ defined_in_fields fs

abbrev after : List Name → List Name → List Name
after written [] = written
after written (x ∷ xs) = after (x ∷ written) xs

after_append : (written xs ys : List Name) → after written (xs ++ ys) ≡ after (after written xs) ys
after_append written [] ys = refl
after_append written (x ∷ xs) ys = after_append (x ∷ written) xs ys

mutual
  written_is : (written : List Name) (f : Form) → written_after written f ≡ after written (defined_in f)
  written_is written (Form.array f) = written_is written f
  written_is written (Form.map_of f) = written_is written f
  written_is written (Form.union fs) = written_is_all written fs
  written_is written (Form.record_of name fs) = written_is_fields (name ∷ written) fs
  written_is written _ = refl

  written_is_all : (written : List Name) (fs : Forms) → written_after_all written fs ≡ after written (defined_in_all fs)
  written_is_all written no_forms = refl
  written_is_all written (form f fs) =
      written_is_all (written_after written f) fs ∙ ap (λ w. after w (defined_in_all fs)) (written_is written f) ∙ sym (after_append written (defined_in f) (defined_in_all fs))

  written_is_fields : (written : List Name) (fs : FieldForms) → written_after_fields written fs ≡ after written (defined_in_fields fs)
  written_is_fields written no_fields = refl
  written_is_fields written (field name f fs) =
      written_is_fields (written_after written f) fs ∙ ap (λ w. after w (defined_in_fields fs)) (written_is written f) ∙ sym (after_append written (defined_in f) (defined_in_fields fs))

-- each name is new where those before it are written
abbrev Fresh : List Name → List Name → Type 0
Fresh written [] = Unit {0}
Fresh written (x ∷ xs) = (is_among x written ≡ false) × Fresh (x ∷ written) xs

fresh_append : (written xs ys : List Name) → Fresh written xs → Fresh (after written xs) ys → Fresh written (xs ++ ys)
fresh_append written [] ys first later = later
fresh_append written (x ∷ xs) ys first later = (first.0, fresh_append (x ∷ written) xs ys first.1 later)

mutual
  fresh_names : (f : Form) (written : List Name) → WellMade written f → Fresh written (defined_in f)
  fresh_names (Form.array f) written good = fresh_names f written good
  fresh_names (Form.map_of f) written good = fresh_names f written good
  fresh_names (Form.union fs) written good = fresh_names_all fs written good.1
  fresh_names (Form.record_of name fs) written good = (good.0, fresh_names_fields fs (name ∷ written) good.3)
  fresh_names (Form.enum name symbols) written good = (good.0, tt)
  fresh_names (Form.fixed name count) written good = (good.0, tt)
  fresh_names _ written good = tt

  fresh_names_all : (fs : Forms) (written : List Name) → AreWellMade written fs → Fresh written (defined_in_all fs)
  fresh_names_all no_forms written good = tt
  fresh_names_all (form f fs) written good =
      fresh_append written (defined_in f) (defined_in_all fs) (fresh_names f written good.0)
      (subst (λ w. Fresh w (defined_in_all fs)) (written_is written f) (fresh_names_all fs (written_after written f) good.1))

  fresh_names_fields : (fs : FieldForms) (written : List Name) → FieldsWellMade written fs → Fresh written (defined_in_fields fs)
  fresh_names_fields no_fields written good = tt
  fresh_names_fields (field name f fs) written good =
      fresh_append written (defined_in f) (defined_in_fields fs) (fresh_names f written good.0)
      (subst (λ w. Fresh w (defined_in_fields fs)) (written_is written f) (fresh_names_fields fs (written_after written f) good.1))

-- a name that is written is none of those that are new
fresh_apart : (name : Name) (written xs : List Name) → Fresh written xs → is_among name written ≡ true → list_any (same_name name) xs ≡ false
fresh_apart name written [] fresh old = refl
fresh_apart name written (x ∷ xs) fresh old =
    (elim (same_name name x) as (λ b. same_name name x ≡ b → (b || list_any (same_name name) xs) ≡ false) [
      | true ↦ λ e. absurd (false≢true (sym fresh.0 ∙ ap (λ it. is_among it written) (sym (same_name-is name x e)) ∙ old))
      | false ↦ λ e. fresh_apart name (x ∷ written) xs fresh.1 (or_right (same_name name x) (is_among name written) old)
    ]) refl

fresh_distinct : (written xs : List Name) → Fresh written xs → are_distinct same_name xs ≡ true
fresh_distinct written [] fresh = refl
fresh_distinct written (x ∷ xs) fresh =
    let here : is_among x (x ∷ written) ≡ true = rw (same_name-self x) refl in
    and_from _ _ (not_from_false _ (fresh_apart x (x ∷ written) xs fresh.1 here)) (fresh_distinct (x ∷ written) xs fresh.1)

word_unnamed : (n : Node) (word : List ℕ) → primitive_word n ≡ Some word → node_name n ≡ None
word_unnamed = by_word (λ n word. node_name n ≡ None) refl refl refl refl refl refl

mutual
  names_laid : (f : Form) (written : List Name) (known : Known) (next : ℕ) → WellMade written f → filter_map node_name (laid known next f) ≡ defined_in f
  names_laid (Form.primitive word) written known next good = rw (word_unnamed (node_of_word word) word good) refl
  names_laid (Form.array f) written known next good = names_laid f written known (suc next) good
  names_laid (Form.map_of f) written known next good = names_laid f written known (suc next) good
  names_laid (Form.union fs) written known next good = names_laid_all fs written known (suc next) good.1
  names_laid (Form.record_of name fs) written known next good = ap (λ names. name ∷ names) (names_laid_fields fs (name ∷ written) (defining name next known) (suc next) good.3)
  names_laid _ written known next good = refl

  names_laid_all : (fs : Forms) (written : List Name) (known : Known) (next : ℕ) → AreWellMade written fs → filter_map node_name (laid_all known next fs) ≡ defined_in_all fs
  names_laid_all no_forms written known next good = refl
  names_laid_all (form f fs) written known next good =
      let later = laid_all (known_after known next f) (next + nodes_in f) fs in
      filter_map-append node_name (laid known next f) later ∙ ap (λ names. names ++ filter_map node_name later) (names_laid f written known next good.0)
      ∙ ap (λ names. defined_in f ++ names) (names_laid_all fs (written_after written f) (known_after known next f) (next + nodes_in f) good.1)

  names_laid_fields : (fs : FieldForms) (written : List Name) (known : Known) (next : ℕ) → FieldsWellMade written fs → filter_map node_name (laid_in_fields known next fs) ≡ defined_in_fields fs
  names_laid_fields no_fields written known next good = refl
  names_laid_fields (field name f fs) written known next good =
      let later = laid_in_fields (known_after known next f) (next + nodes_in f) fs in
      filter_map-append node_name (laid known next f) later ∙ ap (λ names. names ++ filter_map node_name later) (names_laid f written known next good.0)
      ∙ ap (λ names. defined_in f ++ names) (names_laid_fields fs (written_after written f) (known_after known next f) (next + nodes_in f) good.1)

pub laid_distinct : (f : Form) (known : Known) (next : ℕ) → WellMade [] f → are_distinct same_name (filter_map node_name (laid known next f)) ≡ true
laid_distinct f known next good = ap (are_distinct same_name) (names_laid f [] known next good) ∙ fresh_distinct [] (defined_in f) (fresh_names f [] good)
