-- How the text of a form is cut into its parts.
use Rattle.std.proofs.Common.{◌≡◌, ◌<◌, ℕ, ◌^◌, true, false, not, ◌==◌, if◌then◌else◌, List, [], ◌∷◌, ◌++◌, get_or, map, Some, None, refl, sym, ◌∙◌, ap, subst, arith, eq-eqb, decimal, nat_le}
use Rattle.std.specs.List.{list_all}
use Rattle.std.specs.Str.{all_ascii_digits}
use Rattle.std.specs.Char.{is_ascii_digit}
use Rattle.std.proofs.lemmas.Bool.{and_parts, and_from, false≢true, not-true, leb-true}
use Rattle.std.proofs.lemmas.List.{append_assoc, append_cancel_left}
use Rattle.std.proofs.lemmas.Fmt.{digits_decimal}
use Rattle.std.proofs.lemmas.Str.Parse.{numerals_by_value, tells_all_ascii_digits}
use Rattle.avro_name.specs.Name.{Name, is_full_name, is_simple_name, name_of}
use Rattle.avro_schema.specs.WellFormed.{is_enum, max_count}
use Rattle.avro_display.specs.DisplayTree.{name_text}
use Rattle.avro_canonical.specs.Form.{Form, Forms, FieldForms, quoted, after_commas, with_commas, form_text}
use Rattle.avro_canonical.specs.Canonical.{primitive_word}
use Rattle.avro_canonical.specs.inside.WellMade.{node_of_word}
use Rattle.avro_canonical.proofs.NamesRead.{is_free_of, free_of, simple_free_of, name_read}
use Rattle.avro_canonical.proofs.Words.{by_word, none_apart}

-- what a text begins with
pub data Kind : Type 0 where
  word_kind : Kind
  array_kind : Kind
  map_kind : Kind
  union_kind : Kind
  defined_kind : Kind

abbrev pub text_kind : List ℕ → Kind
text_kind text =
    if get_or text 0 0 == 34 then word_kind
    else (if get_or text 0 0 == 91 then union_kind
    else (if get_or text 2 0 == 110 then defined_kind
    else (if get_or text 9 0 == 97 then array_kind else map_kind)))

abbrev pub kind_of : Form → Kind
kind_of (Form.primitive word) = word_kind
kind_of (Form.array f) = array_kind
kind_of (Form.map_of f) = map_kind
kind_of (Form.union fs) = union_kind
kind_of (Form.reference name) = word_kind
kind_of _ = defined_kind

pub data IsOf : Kind → Form → Type 0 where
  of_word : {word : List ℕ} → IsOf word_kind (Form.primitive word)
  of_reference : {name : Name} → IsOf word_kind (Form.reference name)
  of_array : {f : Form} → IsOf array_kind (Form.array f)
  of_map : {f : Form} → IsOf map_kind (Form.map_of f)
  of_union : {fs : Forms} → IsOf union_kind (Form.union fs)
  of_record : {name : Name} {fs : FieldForms} → IsOf defined_kind (Form.record_of name fs)
  of_enum : {name : Name} {symbols : List (List ℕ)} → IsOf defined_kind (Form.enum name symbols)
  of_fixed : {name : Name} {count : ℕ} → IsOf defined_kind (Form.fixed name count)

pub is_of : (f : Form) → IsOf (kind_of f) f
is_of (Form.primitive word) = of_word
is_of (Form.array f) = of_array
is_of (Form.map_of f) = of_map
is_of (Form.union fs) = of_union
is_of (Form.record_of name fs) = of_record
is_of (Form.enum name symbols) = of_enum
is_of (Form.fixed name count) = of_fixed
is_of (Form.reference name) = of_reference

pub kind_told : (f : Form) (r : List ℕ) → text_kind (form_text f ++ r) ≡ kind_of f
kind_told f r = grind arith

pub like : (f g : Form) (r s : List ℕ) → form_text f ++ r ≡ form_text g ++ s → IsOf (kind_of f) g
like f g r s e = subst (λ kind. IsOf kind g) (sym (kind_told g s) ∙ ap text_kind (sym e) ∙ kind_told f r) (is_of g)

pub rest-is : {x y : ℕ} {xs ys : List ℕ} → x ∷ xs ≡ y ∷ ys → xs ≡ ys
rest-is e = cc

pub first-is : {x y : ℕ} {xs ys : List ℕ} → x ∷ xs ≡ y ∷ ys → x ≡ y
first-is e = cc

pub apart : {x y : ℕ} {xs ys : List ℕ} → x ∷ xs ≡ y ∷ ys → (x == y) ≡ false → ⊥
apart {x = x} {y = y} e h = false≢true (sym h ∙ eq-eqb x y (first-is e))

-- a text before a character that is not in it
pub until : (q : ℕ) (a b r s : List ℕ) → is_free_of q a ≡ true → is_free_of q b ≡ true → a ++ q ∷ r ≡ b ++ q ∷ s → (a ≡ b) × (r ≡ s)
until q [] [] r s first second e = (refl, rest-is e)
until q [] (c ∷ cs) r s first second e = absurd (apart (sym e) (not-true (c == q) (and_parts (not (c == q)) (is_free_of q cs) second).0))
until q (c ∷ cs) [] r s first second e = absurd (apart e (not-true (c == q) (and_parts (not (c == q)) (is_free_of q cs) first).0))
until q (c ∷ cs) (d ∷ ds) r s first second e =
    let later = until q cs ds r s (and_parts (not (c == q)) (is_free_of q cs) first).1 (and_parts (not (d == q)) (is_free_of q ds) second).1 (rest-is e) in
    (ap (λ x. x ∷ cs) (first-is e) ∙ ap (λ xs. d ∷ xs) later.0, later.1)

pub until_quote : (a b r s : List ℕ) → is_free_of 34 a ≡ true → is_free_of 34 b ≡ true → quoted a ++ r ≡ quoted b ++ s → (a ≡ b) × (r ≡ s)
until_quote a b r s first second e = grind (arith, append_assoc, rest-is, until)

pub decimal_free : (n : ℕ) → n < 2 ^ 64 → is_free_of 125 (decimal n) ≡ true
decimal_free n small =
    free_of is_ascii_digit 125 refl (decimal n) (digits_pass (decimal n) (digits_decimal (numerals_by_value (λ ds. all_ascii_digits ds ≡ true) tells_all_ascii_digits) n small))
  where
    digits_pass : (ds : List ℕ) → all_ascii_digits ds ≡ true → list_all is_ascii_digit ds ≡ true
    digits_pass [] h = refl
    digits_pass (d ∷ ds) h =
        let both = and_parts (is_ascii_digit d) (all_ascii_digits ds) h in
        and_from (is_ascii_digit d) (list_all is_ascii_digit ds) both.0 (digits_pass ds both.1)

-- what is between a beginning and what follows
pub inside : (front a b c r s d : List ℕ) → (front ++ a ++ c) ++ r ≡ (front ++ b ++ d) ++ s → a ++ (c ++ r) ≡ b ++ (d ++ s)
inside front a b c r s d e = grind (arith, append_assoc, append_cancel_left)

-- the symbols of two enums
pub more_symbols : (xs ys : List (List ℕ)) (r s : List ℕ) → list_all is_simple_name xs ≡ true → list_all is_simple_name ys ≡ true
    → after_commas (map quoted xs) ++ 93 ∷ r ≡ after_commas (map quoted ys) ++ 93 ∷ s → (xs ≡ ys) × (r ≡ s)
more_symbols [] [] r s first second e = (refl, rest-is e)
more_symbols [] (y ∷ ys) r s first second e = absurd (apart e refl)
more_symbols (x ∷ xs) [] r s first second e = absurd (apart e refl)
more_symbols (x ∷ xs) (y ∷ ys) r s first second e =
    let one = and_parts (is_simple_name x) (list_all is_simple_name xs) first in
    let two = and_parts (is_simple_name y) (list_all is_simple_name ys) second in
    let here = until_quote x y (after_commas (map quoted xs) ++ 93 ∷ r) (after_commas (map quoted ys) ++ 93 ∷ s) (simple_free_of 34 refl x one.0) (simple_free_of 34 refl y two.0)
    (sym (append_assoc (quoted x) (after_commas (map quoted xs)) (93 ∷ r)) ∙ rest-is e ∙ append_assoc (quoted y) (after_commas (map quoted ys)) (93 ∷ s)) in
    let later = more_symbols xs ys r s one.1 two.1 here.1 in
    (ap (λ it. it ∷ xs) here.0 ∙ ap (λ its. y ∷ its) later.0, later.1)

pub all_symbols : (xs ys : List (List ℕ)) (r s : List ℕ) → list_all is_simple_name xs ≡ true → list_all is_simple_name ys ≡ true
    → with_commas (map quoted xs) ++ 93 ∷ r ≡ with_commas (map quoted ys) ++ 93 ∷ s → (xs ≡ ys) × (r ≡ s)
all_symbols [] [] r s first second e = (refl, rest-is e)
all_symbols [] (y ∷ ys) r s first second e = absurd (apart e refl)
all_symbols (x ∷ xs) [] r s first second e = absurd (apart e refl)
all_symbols (x ∷ xs) (y ∷ ys) r s first second e = more_symbols (x ∷ xs) (y ∷ ys) r s first second (ap (λ t. 44 ∷ t) e)

pub symbols_named : (symbols : List (List ℕ)) → is_enum symbols None ≡ true → list_all is_simple_name symbols ≡ true
symbols_named symbols h = grind (arith, and_parts)

pub small_count : (count : ℕ) → nat_le count max_count ≡ true → count < 2 ^ 64
small_count count h = omega (arith, leb-true count max_count h)

pub word_free : (word : List ℕ) → primitive_word (node_of_word word) ≡ Some word → is_free_of 34 word ≡ true
word_free word = by_word (λ n text. is_free_of 34 text ≡ true) refl refl refl refl refl refl (node_of_word word) word

-- no name is read from the word of a primitive type
word_no_name : (word : List ℕ) → primitive_word (node_of_word word) ≡ Some word → name_of word [] ≡ None
word_no_name word = by_word (λ n text. name_of text [] ≡ None) refl refl refl refl refl refl (node_of_word word) word

pub word_or_name : (word : List ℕ) (name : Name) → primitive_word (node_of_word word) ≡ Some word → is_full_name name ≡ true → word ≡ name_text name → ⊥
word_or_name word name h full e =
    none_apart (sym (word_no_name word h) ∙ ap (λ text. name_of text []) e ∙ name_read name [] full (λ _. refl))
