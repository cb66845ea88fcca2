-- What the tree of a form makes as it is read.
use Rattle.std.proofs.Common.{◌≡◌, ℕ, suc, ◌+◌, Bool, true, false, ◌||◌, cond, List, [], ◌∷◌, ◌++◌, Option, Some, None, refl, sym, ◌∙◌, ap, arith, map, length, bytes_eq, nat_lt, is_some, unwrap_or, codes}
use Rattle.std.specs.Prelude.{Ok}
use Rattle.std.proofs.lemmas.List.{length-map, length-append}
use Rattle.std.proofs.lemmas.Slice.Eq.{bytes_eq-Decides}
use Rattle.avro_name.specs.Name.{Name, is_full_name, same_name, name_of}
use Rattle.avro_schema.specs.WellFormed.{max_nodes}
use Rattle.avro_display.specs.DisplayTree.{name_text}
use Rattle.serde_json.specs.Data.{Data}
use Rattle.avro_schema_json.specs.declared.error.SchemaError.{SchemaError}
use Rattle.avro_schema_json.specs.DeclaredAttributes.{name_from}
use Rattle.avro_schema_json.specs.Declares.{RawNode, RawField, Known, id_of, Made, node_with, defining, meaning_of, word_of, type_name}
use Rattle.avro_canonical.specs.Form.{Form, Forms, FieldForms, no_forms, form, no_fields, field, written_after, written_after_all, written_after_fields}
use Rattle.avro_canonical.specs.Canonical.{primitive_word, is_among}
use Rattle.avro_canonical.specs.CanonicalTree.{nodes_in, nodes_in_all, nodes_in_fields, is_kept}
use Rattle.avro_canonical.specs.inside.WellMade.{node_of_word}
use Rattle.avro_canonical.specs.inside.Laid.{known_after, known_after_all, known_after_fields, laid_id, laid_ids, laid_fields, laid, laid_all, laid_in_fields, raw_field, raw_node, raw_nodes}
use Rattle.avro_canonical.proofs.NamesRead.{name_read}
use Rattle.avro_canonical.proofs.Words.{none_apart}

mutual
  pub laid_count : (known : Known) (next : ℕ) (f : Form) → length (laid known next f) ≡ nodes_in f
  laid_count known next (Form.array f) = ap suc (laid_count known (suc next) f)
  laid_count known next (Form.map_of f) = ap suc (laid_count known (suc next) f)
  laid_count known next (Form.union fs) = ap suc (laid_count_all known (suc next) fs)
  laid_count known next (Form.record_of name fs) = ap suc (laid_count_fields (defining name next known) (suc next) fs)
  laid_count known next _ = refl

  laid_count_all : (known : Known) (next : ℕ) (fs : Forms) → length (laid_all known next fs) ≡ nodes_in_all fs
  laid_count_all known next no_forms = refl
  laid_count_all known next (form f fs) =
      length-append (laid known next f) (laid_all (known_after known next f) (next + nodes_in f) fs)
      ∙ ap (λ n. n + length (laid_all (known_after known next f) (next + nodes_in f) fs)) (laid_count known next f)
      ∙ ap (λ n. nodes_in f + n) (laid_count_all (known_after known next f) (next + nodes_in f) fs)

  laid_count_fields : (known : Known) (next : ℕ) (fs : FieldForms) → length (laid_in_fields known next fs) ≡ nodes_in_fields fs
  laid_count_fields known next no_fields = refl
  laid_count_fields known next (field name f fs) =
      length-append (laid known next f) (laid_in_fields (known_after known next f) (next + nodes_in f) fs)
      ∙ ap (λ n. n + length (laid_in_fields (known_after known next f) (next + nodes_in f) fs)) (laid_count known next f)
      ∙ ap (λ n. nodes_in f + n) (laid_count_fields (known_after known next f) (next + nodes_in f) fs)

pub raw_count : (known : Known) (next : ℕ) (f : Form) → length (raw_nodes (laid known next f)) ≡ nodes_in f
raw_count known next f = length-map (laid known next f) raw_node ∙ laid_count known next f

-- what is known is what is written
abbrev pub IsKnown : List Name → Known → Type 0
IsKnown written known = (name : Name) → is_some (id_of name known) ≡ is_among name written

or_turned : (s t : Bool) → (s || t) ≡ (t || s)
or_turned s t = grind arith

id_of_last : (x name : Name) (p : ℕ) (known : Known) → is_some (id_of x (known ++ (name, p) ∷ [])) ≡ (is_some (id_of x known) || same_name x name)
id_of_last x name p [] = elim (same_name x name) as (λ b. is_some (cond b (Some p) None) ≡ b) [ true ↦ refl | false ↦ refl ]
id_of_last x name p (d ∷ known) =
    elim (same_name x d.0) as (λ b. is_some (cond b (Some d.1) (id_of x (known ++ (name, p) ∷ []))) ≡ (is_some (cond b (Some d.1) (id_of x known)) || same_name x name))
    [ true ↦ refl | false ↦ id_of_last x name p known ]

pub known_more : (written : List Name) (known : Known) (name : Name) (next : ℕ) → IsKnown written known → IsKnown (name ∷ written) (defining name next known)
known_more written known name next is x = grind (arith, id_of_last, or_turned)

mutual
  pub known_then : (written : List Name) (known : Known) (next : ℕ) (f : Form) → IsKnown written known → IsKnown (written_after written f) (known_after known next f)
  known_then written known next (Form.array f) is = known_then written known (suc next) f is
  known_then written known next (Form.map_of f) is = known_then written known (suc next) f is
  known_then written known next (Form.union fs) is = known_then_all written known (suc next) fs is
  known_then written known next (Form.record_of name fs) is = known_then_fields (name ∷ written) (defining name next known) (suc next) fs (known_more written known name next is)
  known_then written known next (Form.enum name symbols) is = known_more written known name next is
  known_then written known next (Form.fixed name count) is = known_more written known name next is
  known_then written known next _ is = is

  known_then_all : (written : List Name) (known : Known) (next : ℕ) (fs : Forms) → IsKnown written known → IsKnown (written_after_all written fs) (known_after_all known next fs)
  known_then_all written known next no_forms is = is
  known_then_all written known next (form f fs) is = known_then_all (written_after written f) (known_after known next f) (next + nodes_in f) fs (known_then written known next f is)

  known_then_fields : (written : List Name) (known : Known) (next : ℕ) (fs : FieldForms) → IsKnown written known → IsKnown (written_after_fields written fs) (known_after_fields known next fs)
  known_then_fields written known next no_fields is = is
  known_then_fields written known next (field name f fs) is = known_then_fields (written_after written f) (known_after known next f) (next + nodes_in f) fs (known_then written known next f is)

abbrev pub made : Known → ℕ → Form → Made ℕ
made known next f = record { result = laid_id known next f; nodes = raw_nodes (laid known next f); known = known_after known next f; faults = [] }

abbrev pub made_all : Known → ℕ → Forms → Made (List ℕ)
made_all known next fs = record { result = laid_ids known next fs; nodes = raw_nodes (laid_all known next fs); known = known_after_all known next fs; faults = [] }

abbrev pub made_fields : Known → ℕ → FieldForms → Made (List RawField)
made_fields known next fs = record { result = map raw_field (laid_fields known next fs); nodes = raw_nodes (laid_in_fields known next fs); known = known_after_fields known next fs; faults = [] }

-- a node within the limit, without a fault
pub above_clean : {A : Type 0} (next : ℕ) (node : A → RawNode) (faults : List SchemaError) (parts : Made A) → nat_lt next max_nodes ≡ true → faults ≡ [] → parts.faults ≡ []
    → node_with next node faults parts ≡ record { result = next; nodes = node parts.result ∷ parts.nodes; known = parts.known; faults = [] }
above_clean next node faults parts within none no_more = rw (within, none, no_more) refl

pub word_read : (word : List ℕ) (known : Known) (next : ℕ) (enclosing : List ℕ) → primitive_word (node_of_word word) ≡ Some word → nat_lt next max_nodes ≡ true
    → meaning_of (Data.string word) enclosing known next ≡ made known next (Form.primitive word)
word_read word known next enclosing h within = grind arith

not_word : (name : Name) → is_full_name name ≡ true → (word : List ℕ) → name_of word [] ≡ None → bytes_eq (name_text name) word ≡ false
not_word name full word none =
    (elim (bytes_eq (name_text name) word) as (λ b. bytes_eq (name_text name) word ≡ b → b ≡ false) [
      | true ↦ λ e. absurd (none_apart (sym none ∙ ap (λ text. name_of text []) (sym ((bytes_eq-Decides (name_text name) word).0 e)) ∙ name_read name [] full (λ _. refl)))
      | false ↦ λ e. refl
    ]) refl

name_no_word : (name : Name) → is_full_name name ≡ true → word_of (name_text name) ≡ type_name
name_no_word name full =
    rw (
      not_word name full (codes "null") refl,
      not_word name full (codes "boolean") refl,
      not_word name full (codes "int") refl,
      not_word name full (codes "long") refl,
      not_word name full (codes "bytes") refl,
      not_word name full (codes "string") refl,
      not_word name full (codes "float") refl,
      not_word name full (codes "double") refl,
    ) refl

kept_is : (enclosing : List ℕ) (name : Name) → is_kept enclosing name ≡ true → name.namespace ≡ [] → enclosing ≡ []
kept_is enclosing name kept null = grind arith

pub id_is : (o : Option ℕ) → is_some o ≡ true → o ≡ Some (unwrap_or o 0)
id_is o h = grind arith

pub reference_read : (name : Name) (known : Known) (next : ℕ) (enclosing : List ℕ) → is_full_name name ≡ true → is_kept enclosing name ≡ true → is_some (id_of name known) ≡ true
    → meaning_of (Data.string (name_text name)) enclosing known next ≡ made known next (Form.reference name)
reference_read name known next enclosing full kept some = grind (arith, id_is, kept_is, name_no_word, name_read)

pub name_given : (name : Name) (enclosing : List ℕ) → is_full_name name ≡ true → is_kept enclosing name ≡ true → name_from enclosing None (Some (name_text name)) ≡ Ok name
name_given name enclosing full kept = grind (arith, kept_is, name_read)
