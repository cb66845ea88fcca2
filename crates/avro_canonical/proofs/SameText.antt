-- Well made forms of one text are one form.
use Rattle.std.proofs.Common.{arith, ◌≡◌, ℕ, true, false, ◌==◌, List, [], ◌∷◌, ◌++◌, get_or, map, Some, None, refl, sym, ◌∙◌, ap, eq-eqb, codes, decimal, nat_le, bytes_eq}
use Rattle.std.specs.List.{list_all}
use Rattle.std.proofs.lemmas.Bool.{and_parts, false≢true}
use Rattle.std.proofs.lemmas.List.{append_assoc, append_cancel_left}
use Rattle.std.proofs.lemmas.Fmt.{decimal_injective}
use Rattle.avro_name.specs.Name.{Name, is_full_name, is_simple_name}
use Rattle.avro_schema.specs.Distinct.{are_distinct}
use Rattle.avro_schema.specs.WellFormed.{is_enum, max_count}
use Rattle.avro_display.specs.DisplayTree.{name_text}
use Rattle.avro_canonical.specs.Form.{Form, Forms, FieldForms, no_forms, form, no_fields, field, quoted, full_text, after_commas, with_commas, form_text, form_texts, field_texts, written_after}
use Rattle.avro_canonical.specs.Canonical.{primitive_word}
use Rattle.avro_canonical.specs.inside.WellMade.{node_of_word, names_of, are_names, WellMade, AreWellMade, FieldsWellMade}
use Rattle.avro_canonical.proofs.NamesRead.{is_free_of, simple_free_of, name_free, names_same}
use Rattle.avro_canonical.proofs.TextParts.{IsOf, of_word, of_reference, of_array, of_map, of_union, of_record, of_enum, of_fixed, word_kind, array_kind, map_kind, union_kind, defined_kind, like, rest-is, apart, until, until_quote, decimal_free, inside, all_symbols, symbols_named, small_count, word_free, word_or_name}

abbrev Same : Form → Form → List ℕ → List ℕ → Type 0
Same f g r s = (f ≡ g) × (r ≡ s)

by_word : (word : List ℕ) (g : Form) (w : List Name) → primitive_word (node_of_word word) ≡ Some word → WellMade w g → IsOf word_kind g
    → (r s : List ℕ) → quoted word ++ r ≡ form_text g ++ s → Same (Form.primitive word) g r s
by_word word g w h made (of_word {word = other}) r s e =
    let here = until_quote word other r s (word_free word h) (word_free other made) e in (ap (λ it. Form.primitive it) here.0, here.1)
by_word word g w h made (of_reference {name = name}) r s e =
    let here = until_quote word (name_text name) r s (word_free word h) (name_free name made.1) e in absurd (word_or_name word name h made.1 here.0)

by_reference : (name : Name) (g : Form) (w : List Name) → is_full_name name ≡ true → WellMade w g → IsOf word_kind g
    → (r s : List ℕ) → full_text name ++ r ≡ form_text g ++ s → Same (Form.reference name) g r s
by_reference name g w full made (of_word {word = word}) r s e =
    let here = until_quote (name_text name) word r s (name_free name full) (word_free word made) e in absurd (word_or_name word name made full (sym here.0))
by_reference name g w full made (of_reference {name = other}) r s e =
    let here = until_quote (name_text name) (name_text other) r s (name_free name full) (name_free other made.1) e in
    (ap (λ it. Form.reference it) (names_same name other full made.1 here.0), here.1)

-- where forms of one text are that of a part
abbrev SameAs : Form → Type 0
SameAs f = (g : Form) (w : List Name) → WellMade w g → (r s : List ℕ) → form_text f ++ r ≡ form_text g ++ s → Same f g r s

by_array : (f g : Form) (w : List Name) → SameAs f → WellMade w g → IsOf array_kind g → (r s : List ℕ) → form_text (Form.array f) ++ r ≡ form_text g ++ s → Same (Form.array f) g r s
by_array f g w same made (of_array {f = other}) r s e =
    let here = same other w made (125 ∷ r) (125 ∷ s) (inside (codes "{\"type\":\"array\",\"items\":") (form_text f) (form_text other) (125 ∷ []) r s (125 ∷ []) e) in
    (ap (λ it. Form.array it) here.0, rest-is here.1)

by_map : (f g : Form) (w : List Name) → SameAs f → WellMade w g → IsOf map_kind g → (r s : List ℕ) → form_text (Form.map_of f) ++ r ≡ form_text g ++ s → Same (Form.map_of f) g r s
by_map f g w same made (of_map {f = other}) r s e =
    let here = same other w made (125 ∷ r) (125 ∷ s) (inside (codes "{\"type\":\"map\",\"values\":") (form_text f) (form_text other) (125 ∷ []) r s (125 ∷ []) e) in
    (ap (λ it. Form.map_of it) here.0, rest-is here.1)

-- two definitions: their names, and what follows these
head_cut : (a b t u x y c d r s : List ℕ) → is_free_of 34 a ≡ true → is_free_of 34 b ≡ true
    → (codes "{\"name\":" ++ quoted a ++ t ++ x ++ c) ++ r ≡ (codes "{\"name\":" ++ quoted b ++ u ++ y ++ d) ++ s
    → (a ≡ b) × (t ++ (x ++ (c ++ r)) ≡ u ++ (y ++ (d ++ s)))
head_cut a b t u x y c d r s first second e = grind (arith, append_assoc, append_cancel_left, until_quote)

-- the words of their types differ in the first letter
types_apart : (a b : List ℕ) → a ≡ b → (get_or a 9 0 == get_or b 9 0) ≡ false → ⊥
types_apart a b e h = false≢true (sym h ∙ eq-eqb (get_or a 9 0) (get_or b 9 0) (ap (λ text. get_or text 9 0) e))

abbrev record_text : List ℕ
record_text = codes ",\"type\":\"record\",\"fields\":["

abbrev enum_text : List ℕ
enum_text = codes ",\"type\":\"enum\",\"symbols\":["

abbrev fixed_text : List ℕ
fixed_text = codes ",\"type\":\"fixed\",\"size\":"

abbrev SameAsFields : FieldForms → Type 0
SameAsFields fs = (gs : FieldForms) (w : List Name) → FieldsWellMade w gs → list_all is_simple_name (names_of gs) ≡ true
    → (r s : List ℕ) → with_commas (field_texts fs) ++ 93 ∷ r ≡ with_commas (field_texts gs) ++ 93 ∷ s → (fs ≡ gs) × (r ≡ s)

names_simple : (names : List (List ℕ)) → are_names names ≡ true → list_all is_simple_name names ≡ true
names_simple names h = (and_parts (list_all is_simple_name names) (are_distinct bytes_eq names) h).0

by_record : (name : Name) (fs : FieldForms) (g : Form) (w : List Name) → is_full_name name ≡ true → SameAsFields fs → WellMade w g → IsOf defined_kind g
    → (r s : List ℕ) → form_text (Form.record_of name fs) ++ r ≡ form_text g ++ s → Same (Form.record_of name fs) g r s
by_record name fs g w full same made (of_record {name = other} {fs = gs}) r s e =
    let cut = head_cut (name_text name) (name_text other) record_text record_text (with_commas (field_texts fs)) (with_commas (field_texts gs))
    (codes "]}") (codes "]}") r s (name_free name full) (name_free other made.1) e in
    let here = same gs (other ∷ w) made.3 (names_simple (names_of gs) made.2) (125 ∷ r) (125 ∷ s) (append_cancel_left record_text _ _ cut.1) in
    (ap (λ it. Form.record_of it fs) (names_same name other full made.1 cut.0) ∙ ap (λ its. Form.record_of other its) here.0, rest-is here.1)
by_record name fs g w full same made (of_enum {name = other} {symbols = symbols}) r s e =
    let cut = head_cut (name_text name) (name_text other) record_text enum_text (with_commas (field_texts fs)) (with_commas (map quoted symbols))
    (codes "]}") (codes "]}") r s (name_free name full) (name_free other made.1) e in
    absurd (types_apart _ _ cut.1 refl)
by_record name fs g w full same made (of_fixed {name = other} {count = count}) r s e =
    let cut = head_cut (name_text name) (name_text other) record_text fixed_text (with_commas (field_texts fs)) (decimal count)
    (codes "]}") (codes "}") r s (name_free name full) (name_free other made.1) e in
    absurd (types_apart _ _ cut.1 refl)

by_enum : (name : Name) (symbols : List (List ℕ)) (g : Form) (w : List Name) → is_full_name name ≡ true → is_enum symbols None ≡ true → WellMade w g → IsOf defined_kind g
    → (r s : List ℕ) → form_text (Form.enum name symbols) ++ r ≡ form_text g ++ s → Same (Form.enum name symbols) g r s
by_enum name symbols g w full good made (of_record {name = other} {fs = gs}) r s e =
    let cut = head_cut (name_text name) (name_text other) enum_text record_text (with_commas (map quoted symbols)) (with_commas (field_texts gs))
    (codes "]}") (codes "]}") r s (name_free name full) (name_free other made.1) e in
    absurd (types_apart _ _ cut.1 refl)
by_enum name symbols g w full good made (of_enum {name = other} {symbols = others}) r s e =
    let cut = head_cut (name_text name) (name_text other) enum_text enum_text (with_commas (map quoted symbols)) (with_commas (map quoted others))
    (codes "]}") (codes "]}") r s (name_free name full) (name_free other made.1) e in
    let here = all_symbols symbols others (125 ∷ r) (125 ∷ s) (symbols_named symbols good) (symbols_named others made.2) (append_cancel_left enum_text _ _ cut.1) in
    (ap (λ it. Form.enum it symbols) (names_same name other full made.1 cut.0) ∙ ap (λ its. Form.enum other its) here.0, rest-is here.1)
by_enum name symbols g w full good made (of_fixed {name = other} {count = count}) r s e =
    let cut = head_cut (name_text name) (name_text other) enum_text fixed_text (with_commas (map quoted symbols)) (decimal count)
    (codes "]}") (codes "}") r s (name_free name full) (name_free other made.1) e in
    absurd (types_apart _ _ cut.1 refl)

by_fixed : (name : Name) (count : ℕ) (g : Form) (w : List Name) → is_full_name name ≡ true → nat_le count max_count ≡ true → WellMade w g → IsOf defined_kind g
    → (r s : List ℕ) → form_text (Form.fixed name count) ++ r ≡ form_text g ++ s → Same (Form.fixed name count) g r s
by_fixed name count g w full small made (of_record {name = other} {fs = gs}) r s e =
    let cut = head_cut (name_text name) (name_text other) fixed_text record_text (decimal count) (with_commas (field_texts gs))
    (codes "}") (codes "]}") r s (name_free name full) (name_free other made.1) e in
    absurd (types_apart _ _ cut.1 refl)
by_fixed name count g w full small made (of_enum {name = other} {symbols = others}) r s e =
    let cut = head_cut (name_text name) (name_text other) fixed_text enum_text (decimal count) (with_commas (map quoted others))
    (codes "}") (codes "]}") r s (name_free name full) (name_free other made.1) e in
    absurd (types_apart _ _ cut.1 refl)
by_fixed name count g w full small made (of_fixed {name = other} {count = number}) r s e =
    let cut = head_cut (name_text name) (name_text other) fixed_text fixed_text (decimal count) (decimal number)
    (codes "}") (codes "}") r s (name_free name full) (name_free other made.1) e in
    let one = small_count count small in
    let two = small_count number made.2 in
    let here = until 125 (decimal count) (decimal number) r s (decimal_free count one) (decimal_free number two) (append_cancel_left fixed_text _ _ cut.1) in
    (ap (λ it. Form.fixed it count) (names_same name other full made.1 cut.0) ∙ ap (λ n. Form.fixed other n) (decimal_injective count number one two here.0), here.1)

abbrev SameAsForms : Forms → Type 0
SameAsForms fs = (gs : Forms) (w : List Name) → AreWellMade w gs → (r s : List ℕ)
    → after_commas (form_texts fs) ++ 93 ∷ r ≡ after_commas (form_texts gs) ++ 93 ∷ s → (fs ≡ gs) × (r ≡ s)

by_union : (fs : Forms) (w : List Name) → WellMade w (Form.union fs) → SameAsForms fs → (g : Form) (v : List Name) → WellMade v g → IsOf union_kind g
    → (r s : List ℕ) → form_text (Form.union fs) ++ r ≡ form_text g ++ s → Same (Form.union fs) g r s
by_union no_forms w made same g v other is r s e = absurd (false≢true made.0)
by_union (form f fs) w made same g v other (of_union {fs = no_forms}) r s e = absurd (false≢true other.0)
by_union (form f fs) w made same g v other (of_union {fs = form h hs}) r s e =
    let cut = inside (codes "[") (with_commas (form_texts (form f fs))) (with_commas (form_texts (form h hs))) (codes "]") r s (codes "]") e in
    let here = same (form h hs) v other.1 r s (ap (λ text. 44 ∷ text) cut) in
    (ap (λ its. Form.union its) here.0, here.1)

one_form : (f h : Form) (u v r s : List ℕ) → SameAs f → (w : List Name) → WellMade w h → (form_text f ++ u) ++ 93 ∷ r ≡ (form_text h ++ v) ++ 93 ∷ s
    → (f ≡ h) × (u ++ 93 ∷ r ≡ v ++ 93 ∷ s)
one_form f h u v r s same w made e = grind (arith, append_assoc)

abbrev field_text : List ℕ → Form → List ℕ
field_text name f = codes "{\"name\":" ++ quoted name ++ codes ",\"type\":" ++ form_text f ++ codes "}"

one_field : (name other : List ℕ) (f h : Form) (u v r s : List ℕ) → is_simple_name name ≡ true → is_simple_name other ≡ true → SameAs f → (w : List Name) → WellMade w h
    → (field_text name f ++ u) ++ 93 ∷ r ≡ (field_text other h ++ v) ++ 93 ∷ s → (name ≡ other) × (f ≡ h) × (u ++ 93 ∷ r ≡ v ++ 93 ∷ s)
one_field name other f h u v r s first second same w made e =
    let cut = head_cut name other (codes ",\"type\":") (codes ",\"type\":") (form_text f) (form_text h) (codes "}") (codes "}") (u ++ 93 ∷ r) (v ++ 93 ∷ s)
    (simple_free_of 34 refl name first) (simple_free_of 34 refl other second)
    (sym (append_assoc (field_text name f) u (93 ∷ r)) ∙ e ∙ append_assoc (field_text other h) v (93 ∷ s)) in
    let here = same h w made (125 ∷ u ++ 93 ∷ r) (125 ∷ v ++ 93 ∷ s) (append_cancel_left (codes ",\"type\":") _ _ cut.1) in
    (cut.0, here.0, rest-is here.1)

all_fields : (fs gs : FieldForms) (r s : List ℕ)
    → (after_commas (field_texts fs) ++ 93 ∷ r ≡ after_commas (field_texts gs) ++ 93 ∷ s → (fs ≡ gs) × (r ≡ s))
    → with_commas (field_texts fs) ++ 93 ∷ r ≡ with_commas (field_texts gs) ++ 93 ∷ s → (fs ≡ gs) × (r ≡ s)
all_fields no_fields no_fields r s same e = (refl, rest-is e)
all_fields no_fields (field name g gs) r s same e = absurd (apart e refl)
all_fields (field name f fs) no_fields r s same e = absurd (apart e refl)
all_fields (field name f fs) (field other g gs) r s same e = same (ap (λ text. 44 ∷ text) e)

mutual
  pub same_form : (f : Form) (w : List Name) → WellMade w f → (g : Form) (v : List Name) → WellMade v g → (r s : List ℕ)
      → form_text f ++ r ≡ form_text g ++ s → Same f g r s
  same_form (Form.primitive word) w made g v other r s e = by_word word g v made other (like (Form.primitive word) g r s e) r s e
  same_form (Form.array f) w made g v other r s e = by_array f g v (λ h u. same_form f w made h u) other (like (Form.array f) g r s e) r s e
  same_form (Form.map_of f) w made g v other r s e = by_map f g v (λ h u. same_form f w made h u) other (like (Form.map_of f) g r s e) r s e
  same_form (Form.union fs) w made g v other r s e = by_union fs w made (λ hs u. same_forms fs w made.1 hs u) g v other (like (Form.union fs) g r s e) r s e
  same_form (Form.record_of name fs) w made g v other r s e =
      by_record name fs g v made.1 (λ gs u others named r s e. all_fields fs gs r s (same_fields fs (name ∷ w) made.3 (names_simple (names_of fs) made.2) gs u others named r s) e)
      other (like (Form.record_of name fs) g r s e) r s e
  same_form (Form.enum name symbols) w made g v other r s e = by_enum name symbols g v made.1 made.2 other (like (Form.enum name symbols) g r s e) r s e
  same_form (Form.fixed name count) w made g v other r s e = by_fixed name count g v made.1 made.2 other (like (Form.fixed name count) g r s e) r s e
  same_form (Form.reference name) w made g v other r s e = by_reference name g v made.1 other (like (Form.reference name) g r s e) r s e

  same_forms : (fs : Forms) (w : List Name) → AreWellMade w fs → (gs : Forms) (v : List Name) → AreWellMade v gs → (r s : List ℕ)
      → after_commas (form_texts fs) ++ 93 ∷ r ≡ after_commas (form_texts gs) ++ 93 ∷ s → (fs ≡ gs) × (r ≡ s)
  same_forms no_forms w made no_forms v other r s e = (refl, rest-is e)
  same_forms no_forms w made (form g gs) v other r s e = absurd (apart e refl)
  same_forms (form f fs) w made no_forms v other r s e = absurd (apart e refl)
  same_forms (form f fs) w made (form g gs) v other r s e =
      let here = one_form f g (after_commas (form_texts fs)) (after_commas (form_texts gs)) r s (λ h u. same_form f w made.0 h u) v other.0 (rest-is e) in
      let later = same_forms fs (written_after w f) made.1 gs (written_after v g) other.1 r s here.1 in
      (ap (λ it. form it fs) here.0 ∙ ap (λ its. form g its) later.0, later.1)

  same_fields : (fs : FieldForms) (w : List Name) → FieldsWellMade w fs → list_all is_simple_name (names_of fs) ≡ true
      → (gs : FieldForms) (v : List Name) → FieldsWellMade v gs → list_all is_simple_name (names_of gs) ≡ true → (r s : List ℕ)
      → after_commas (field_texts fs) ++ 93 ∷ r ≡ after_commas (field_texts gs) ++ 93 ∷ s → (fs ≡ gs) × (r ≡ s)
  same_fields no_fields w made first no_fields v other second r s e = (refl, rest-is e)
  same_fields no_fields w made first (field name g gs) v other second r s e = absurd (apart e refl)
  same_fields (field name f fs) w made first no_fields v other second r s e = absurd (apart e refl)
  same_fields (field name f fs) w made first (field own g gs) v other second r s e =
      let one = and_parts (is_simple_name name) (list_all is_simple_name (names_of fs)) first in
      let two = and_parts (is_simple_name own) (list_all is_simple_name (names_of gs)) second in
      let here = one_field name own f g (after_commas (field_texts fs)) (after_commas (field_texts gs)) r s one.0 two.0 (λ h u. same_form f w made.0 h u) v other.0 (rest-is e) in
      let later = same_fields fs (written_after w f) made.1 one.1 gs (written_after v g) other.1 two.1 r s here.2 in
      (ap (λ it. field it f fs) here.0 ∙ ap (λ it. field own it fs) here.1 ∙ ap (λ its. field own g its) later.0, later.1)
