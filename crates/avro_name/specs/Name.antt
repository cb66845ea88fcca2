-- What a name is (Avro 1.11, "Names").
use Rattle.std.specs.Prelude.{ℕ, Bool, true, false, not, ◌&&◌, ◌||◌, List, [], ◌∷◌, Option, Some, None, codes, bytes_eq, nat_le, ◌==◌, if◌then◌else◌}
use Rattle.std.specs.List.{list_all, list_any, before_last, after_last}

-- `[A-Za-z_]`
abbrev pub is_name_start : ℕ → Bool
is_name_start c = (nat_le 65 c && nat_le c 90) || (nat_le 97 c && nat_le c 122) || c == 95

-- `[A-Za-z0-9_]`
abbrev pub is_name_character : ℕ → Bool
is_name_character c = is_name_start c || (nat_le 48 c && nat_le c 57)

-- a simple name: a letter or `_`, then letters, digits and `_`; also what a field, an alias of one and a symbol may be
-- called
abbrev pub is_simple_name : List ℕ → Bool
is_simple_name [] = false
is_simple_name (c ∷ cs) = is_name_start c && list_all is_name_character cs

-- a character put before the first of some texts
abbrev pub onto_first : ℕ → List (List ℕ) → List (List ℕ)
onto_first c [] = (c ∷ []) ∷ []
onto_first c (part ∷ parts) = (c ∷ part) ∷ parts

-- the texts between the dots
abbrev pub dotted_parts : List ℕ → List (List ℕ)
dotted_parts [] = [] ∷ []
dotted_parts (c ∷ cs) = if c == 46 then [] ∷ dotted_parts cs else onto_first c (dotted_parts cs)

-- simple names joined by dots
abbrev pub is_dotted_name : List ℕ → Bool
is_dotted_name text = list_all is_simple_name (dotted_parts text)

-- simple names joined by dots, or no text at all, which is the null namespace
abbrev pub is_namespace : List ℕ → Bool
is_namespace [] = true
is_namespace (c ∷ cs) = is_dotted_name (c ∷ cs)

-- the names of the primitive types, which no other type may have
abbrev pub primitive_words : List (List ℕ)
primitive_words = codes "null" ∷ codes "boolean" ∷ codes "int" ∷ codes "long" ∷ codes "float" ∷ codes "double" ∷ codes "bytes" ∷ codes "string" ∷ []

-- one of those eight words
abbrev pub is_primitive_word : List ℕ → Bool
is_primitive_word text = list_any (bytes_eq text) primitive_words

-- a fullname: its namespace, and its simple part
pub record Name : Type 0 where
  pub namespace : List ℕ
  pub simple : List ℕ

-- a namespace, and a simple name that is not the word of a primitive type
abbrev pub is_full_name : Name → Bool
is_full_name name = is_namespace name.namespace && is_simple_name name.simple && not (is_primitive_word name.simple)

-- the test whether two names are equal; upper and lower case differ
abbrev pub same_name : Name → Name → Bool
same_name a b = bytes_eq a.simple b.simple && bytes_eq a.namespace b.namespace

-- the text has a dot
abbrev pub has_dot : List ℕ → Bool
has_dot text = list_any (λ c. c == 46) text

-- the two parts of a text with a dot, which is a fullname; a text without one stands in the enclosing namespace
abbrev pub split_name : List ℕ → List ℕ → Name
split_name text enclosing = if has_dot text
    then record { namespace = before_last (λ c. c == 46) text; simple = after_last (λ c. c == 46) text }
    else record { namespace = enclosing; simple = text }

-- the fullname that a text means inside a namespace: with a dot its own, without one in that namespace
abbrev pub name_of : List ℕ → List ℕ → Option Name
name_of text enclosing = if is_dotted_name text && not (is_primitive_word (split_name text enclosing).simple)
    then Some (split_name text enclosing) else None

-- a text without characters
abbrev pub is_empty_text : List ℕ → Bool
is_empty_text [] = true
is_empty_text (c ∷ cs) = false

-- some part between the dots is empty
abbrev pub has_empty_part : List ℕ → Bool
has_empty_part text = list_any is_empty_text (dotted_parts text)

-- a character of a part may not stand where it does
abbrev pub is_misspelled : List ℕ → Bool
is_misspelled [] = false
is_misspelled (c ∷ cs) = not (is_name_start c) || list_any (λ d. not (is_name_character d)) cs

-- some part between the dots has a character that may not stand where it does
abbrev pub has_bad_character : List ℕ → Bool
has_bad_character text = list_any is_misspelled (dotted_parts text)
