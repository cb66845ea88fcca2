-- The tree of a well made form is read without a fault.
use Rattle.std.proofs.Common.{◌≡◌, ◌≤◌, ℕ, suc, ◌+◌, true, false, List, [], ◌∷◌, Some, None, refl, ◌∙◌, ap, arith, length, nat_lt, nat_le}
use Rattle.std.proofs.lemmas.Bool.{and_parts, lt-ltb}
use Rattle.std.proofs.lemmas.List.{map-append}
use Rattle.avro_name.specs.Name.{Name, is_full_name}
use Rattle.avro_schema.specs.WellFormed.{max_nodes, max_count}
use Rattle.avro_schema.specs.Node.{Node}
use Rattle.avro_schema_json.specs.DeclaredAttributes.{texts_of}
use Rattle.avro_schema_json.specs.Declares.{RawNode, RawField, Known, Made, node_with, followed_by, in_turn, defining, name_faults, meaning_of, branches_of, field_meanings}
use Rattle.avro_canonical.specs.Form.{Form, Forms, FieldForms, no_forms, form, no_fields, field, written_after}
use Rattle.avro_canonical.specs.Canonical.{is_among}
use Rattle.avro_canonical.specs.CanonicalTree.{text_items, form_tree, form_trees, field_trees, nodes_in, nodes_in_all, nodes_in_fields, is_kept, keeps_names, all_keep_names, fields_keep_names}
use Rattle.avro_canonical.specs.inside.WellMade.{WellMade, AreWellMade, FieldsWellMade}
use Rattle.avro_canonical.specs.inside.Laid.{known_after}
use Rattle.avro_canonical.proofs.LaidRead.{raw_count, IsKnown, known_more, known_then, made, made_all, made_fields, above_clean, word_read, reference_read, name_given}

texts_given : (texts : List (List ℕ)) → texts_of (text_items texts) ≡ Some texts
texts_given [] = refl
texts_given (text ∷ texts) = rw (texts_given texts) refl

fresh_name : (written : List Name) (known : Known) (name : Name) → IsKnown written known → is_among name written ≡ false → name_faults name known ≡ []
fresh_name written known name is new = rw (is name, new) refl

-- what a part makes, and what is read after it
next_made : (first : Made ℕ) (f : Form) (fs : Forms) (known : Known) (next : ℕ) (rest : Known → ℕ → Made (List ℕ)) → first ≡ made known next f
    → rest (known_after known next f) (next + nodes_in f) ≡ made_all (known_after known next f) (next + nodes_in f) fs
    → followed_by first (λ it. rest it.known (next + length it.nodes)) ≡ made_all known next (form f fs)
next_made first f fs known next rest one others = grind (arith, made, map-append, raw_count)

-- a field, from its type
abbrev typed : List ℕ → Made ℕ → Made RawField
typed name it = record { result = record { name = name; aliases = []; node = it.result; default = None }; nodes = it.nodes; known = it.known; faults = it.faults }

next_field_made : (first : Made ℕ) (name : List ℕ) (f : Form) (fs : FieldForms) (known : Known) (next : ℕ) (rest : Known → ℕ → Made (List RawField)) → first ≡ made known next f
    → rest (known_after known next f) (next + nodes_in f) ≡ made_fields (known_after known next f) (next + nodes_in f) fs
    → followed_by (typed name first) (λ it. rest it.known (next + length it.nodes)) ≡ made_fields known next (field name f fs)
next_field_made first name f fs known next rest one others = grind (arith, made, map-append, raw_count)

-- definitions, once their names are read
record_read : (name : Name) (fs : FieldForms) (known : Known) (next : ℕ) (enclosing : List ℕ)
    → is_full_name name ≡ true → is_kept enclosing name ≡ true → name_faults name known ≡ [] → nat_lt next max_nodes ≡ true
    → in_turn (field_meanings (field_trees fs)) name.namespace (defining name next known) (suc next) ≡ made_fields (defining name next known) (suc next) fs
    → meaning_of (form_tree (Form.record_of name fs)) enclosing known next ≡ made known next (Form.record_of name fs)
record_read name fs known next enclosing full kept new within parts = grind (arith, name_given)

enum_read : (name : Name) (symbols : List (List ℕ)) (known : Known) (next : ℕ) (enclosing : List ℕ)
    → is_full_name name ≡ true → is_kept enclosing name ≡ true → name_faults name known ≡ [] → nat_lt next max_nodes ≡ true
    → meaning_of (form_tree (Form.enum name symbols)) enclosing known next ≡ made known next (Form.enum name symbols)
enum_read name symbols known next enclosing full kept new within = grind (arith, name_given, texts_given)

fixed_read : (name : Name) (count : ℕ) (known : Known) (next : ℕ) (enclosing : List ℕ)
    → is_full_name name ≡ true → is_kept enclosing name ≡ true → name_faults name known ≡ [] → nat_lt next max_nodes ≡ true → nat_le count max_count ≡ true
    → meaning_of (form_tree (Form.fixed name count)) enclosing known next ≡ made known next (Form.fixed name count)
fixed_read name count known next enclosing full kept new within small = grind (arith, name_given)

room : (next first later : ℕ) → next + (first + later) ≤ max_nodes → next + first ≤ max_nodes
room next first later h = omega (arith, h)

room_later : (next first later : ℕ) → next + (first + later) ≤ max_nodes → next + first + later ≤ max_nodes
room_later next first later h = omega (arith, h)

room_inside : (next parts : ℕ) → next + suc parts ≤ max_nodes → suc next + parts ≤ max_nodes
room_inside next parts h = omega (arith, h)

room_here : (next parts : ℕ) → next + suc parts ≤ max_nodes → nat_lt next max_nodes ≡ true
room_here next parts h = lt-ltb next max_nodes (omega (arith, h))

room_one : (next : ℕ) → next + 1 ≤ max_nodes → nat_lt next max_nodes ≡ true
room_one next h = lt-ltb next max_nodes (omega (arith, h))

mutual
  pub form_read : (f : Form) (written : List Name) (known : Known) (next : ℕ) (enclosing : List ℕ) → WellMade written f → IsKnown written known
      → keeps_names enclosing f ≡ true → next + nodes_in f ≤ max_nodes → meaning_of (form_tree f) enclosing known next ≡ made known next f
  form_read (Form.primitive word) written known next enclosing good is kept few = word_read word known next enclosing good (room_one next few)
  form_read (Form.array f) written known next enclosing good is kept few =
      ap (node_with next (λ id. RawNode.plain (Node.array id)) []) (form_read f written known (suc next) enclosing good is kept (room_inside next (nodes_in f) few))
      ∙ above_clean next (λ id. RawNode.plain (Node.array id)) [] (made known (suc next) f) (room_here next (nodes_in f) few) refl refl
  form_read (Form.map_of f) written known next enclosing good is kept few =
      ap (node_with next (λ id. RawNode.plain (Node.map_of id)) []) (form_read f written known (suc next) enclosing good is kept (room_inside next (nodes_in f) few))
      ∙ above_clean next (λ id. RawNode.plain (Node.map_of id)) [] (made known (suc next) f) (room_here next (nodes_in f) few) refl refl
  form_read (Form.union fs) written known next enclosing good is kept few =
      ap (node_with next (λ ids. RawNode.plain (Node.union ids)) []) (forms_read fs written known (suc next) enclosing good.1 is kept (room_inside next (nodes_in_all fs) few))
      ∙ above_clean next (λ ids. RawNode.plain (Node.union ids)) [] (made_all known (suc next) fs) (room_here next (nodes_in_all fs) few) refl refl
  form_read (Form.record_of name fs) written known next enclosing good is kept few =
      let both = and_parts (is_kept enclosing name) (fields_keep_names name.namespace fs) kept in
      record_read name fs known next enclosing good.1 both.0 (fresh_name written known name is good.0) (room_here next (nodes_in_fields fs) few)
      (fields_read fs (name ∷ written) (defining name next known) (suc next) name.namespace good.3 (known_more written known name next is) both.1 (room_inside next (nodes_in_fields fs) few))
  form_read (Form.enum name symbols) written known next enclosing good is kept few =
      enum_read name symbols known next enclosing good.1 kept (fresh_name written known name is good.0) (room_one next few)
  form_read (Form.fixed name count) written known next enclosing good is kept few =
      fixed_read name count known next enclosing good.1 kept (fresh_name written known name is good.0) (room_one next few) good.2
  form_read (Form.reference name) written known next enclosing good is kept few =
      reference_read name known next enclosing good.1 kept (is name ∙ good.0)

  forms_read : (fs : Forms) (written : List Name) (known : Known) (next : ℕ) (enclosing : List ℕ) → AreWellMade written fs → IsKnown written known
      → all_keep_names enclosing fs ≡ true → next + nodes_in_all fs ≤ max_nodes → in_turn (branches_of (form_trees fs)) enclosing known next ≡ made_all known next fs
  forms_read no_forms written known next enclosing good is kept few = refl
  forms_read (form f fs) written known next enclosing good is kept few =
      let both = and_parts (keeps_names enclosing f) (all_keep_names enclosing fs) kept in
      next_made (meaning_of (form_tree f) enclosing known next) f fs known next (λ k n. in_turn (branches_of (form_trees fs)) enclosing k n)
      (form_read f written known next enclosing good.0 is both.0 (room next (nodes_in f) (nodes_in_all fs) few))
      (forms_read fs (written_after written f) (known_after known next f) (next + nodes_in f) enclosing good.1 (known_then written known next f is) both.1
      (room_later next (nodes_in f) (nodes_in_all fs) few))

  fields_read : (fs : FieldForms) (written : List Name) (known : Known) (next : ℕ) (enclosing : List ℕ) → FieldsWellMade written fs → IsKnown written known
      → fields_keep_names enclosing fs ≡ true → next + nodes_in_fields fs ≤ max_nodes → in_turn (field_meanings (field_trees fs)) enclosing known next ≡ made_fields known next fs
  fields_read no_fields written known next enclosing good is kept few = refl
  fields_read (field name f fs) written known next enclosing good is kept few =
      let both = and_parts (keeps_names enclosing f) (fields_keep_names enclosing fs) kept in
      next_field_made (meaning_of (form_tree f) enclosing known next) name f fs known next (λ k n. in_turn (field_meanings (field_trees fs)) enclosing k n)
      (form_read f written known next enclosing good.0 is both.0 (room next (nodes_in f) (nodes_in_fields fs) few))
      (fields_read fs (written_after written f) (known_after known next f) (next + nodes_in f) enclosing good.1 (known_then written known next f is) both.1
      (room_later next (nodes_in f) (nodes_in_fields fs) few))
