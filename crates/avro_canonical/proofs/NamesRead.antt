-- The text of a fullname is read as that name.
use Rattle.std.proofs.Common.{◌≡◌, ℕ, zero, suc, ◌+◌, ◌-◌, ◌<◌, ◌≤◌, Bool, true, false, not, ◌&&◌, ◌||◌, cond, List, [], ◌∷◌, ◌++◌, length, get_or, take, drop, Some, ◌==◌, refl, sym, ◌∙◌, ap, subst, arith, ne_eqb, eq-eqb, length-append}
use Rattle.std.specs.List.{list_all, before_last, after_last, suffix_len}
use Rattle.std.proofs.Math.Bool.{or-true}
use Rattle.std.proofs.Math.Seq.{take-append_seam, drop-append-add, get_or-append_seam}
use Rattle.std.proofs.lemmas.List.{get_or-append_right}
use Rattle.std.proofs.lemmas.List.Folds.{list_all-append, list_any-append}
use Rattle.std.proofs.lemmas.List.Sums.{suffix_len_is}
use Rattle.std.proofs.lemmas.Bool.{cond-true, cond-false, and_parts, and_from, not_from_true, not_from_false, not-true, false≢true}
use Rattle.avro_name.specs.Name.{Name, is_name_character, is_simple_name, onto_first, dotted_parts, is_dotted_name, is_namespace, is_primitive_word, is_full_name, has_dot, split_name, name_of}
use Rattle.avro_name.proofs.public.Names.{parts_at}
use Rattle.avro_display.specs.DisplayTree.{name_text}
use Rattle.avro_canonical.proofs.Words.{some-is}

-- no character is q
abbrev pub is_free_of : ℕ → List ℕ → Bool
is_free_of q text = list_all (λ c. not (c == q)) text

-- where each passes a test that q does not
pub free_of : (p : ℕ → Bool) (q : ℕ) → p q ≡ false → (text : List ℕ) → list_all p text ≡ true → is_free_of q text ≡ true
free_of p q out [] h = refl
free_of p q out (c ∷ cs) h =
    let parts = and_parts (p c) (list_all p cs) h in
    and_from (not (c == q)) (is_free_of q cs) (not_from_false _ (ne_eqb c q (λ e. false≢true (sym out ∙ ap p (sym e) ∙ parts.0)))) (free_of p q out cs parts.1)

simple_passes : (c : ℕ) (cs : List ℕ) → is_simple_name (c ∷ cs) ≡ true → list_all is_name_character (c ∷ cs) ≡ true
simple_passes c cs h = grind (arith, and_parts)

-- a simple name has no character that is no name's
pub simple_free_of : (q : ℕ) → is_name_character q ≡ false → (text : List ℕ) → is_simple_name text ≡ true → is_free_of q text ≡ true
simple_free_of q out [] h = refl
simple_free_of q out (c ∷ cs) h = free_of is_name_character q out (c ∷ cs) (simple_passes c cs h)

-- a text without a dot is one part
part_alone : (text : List ℕ) → is_free_of 46 text ≡ true → dotted_parts text ≡ text ∷ []
part_alone [] h = refl
part_alone (c ∷ cs) h =
    let parts = and_parts (not (c == 46)) (is_free_of 46 cs) h in
    let none : (c == 46) ≡ false = not-true (c == 46) parts.0 in
    cond-false (c == 46) _ _ none ∙ ap (onto_first c) (part_alone cs parts.1)

no_dot_in : (text : List ℕ) → is_free_of 46 text ≡ true → has_dot text ≡ false
no_dot_in [] h = refl
no_dot_in (c ∷ cs) h =
    let parts = and_parts (not (c == 46)) (is_free_of 46 cs) h in
    rw (not-true (c == 46) parts.0) (no_dot_in cs parts.1)

free_at : (q : ℕ) (text : List ℕ) (k : ℕ) → is_free_of q text ≡ true → k < length text → not (get_or text k 0 == q) ≡ true
free_at q [] k h within = absurd (omega (arith, within))
free_at q (c ∷ cs) zero h within = (and_parts (not (c == q)) (is_free_of q cs) h).0
free_at q (c ∷ cs) (suc k) h within = free_at q cs k (and_parts (not (c == q)) (is_free_of q cs) h).1 (omega (arith, within))

after_at : (q : ℕ) (front text : List ℕ) (k : ℕ) → is_free_of q text ≡ true → length front + 1 ≤ k → k < length (front ++ q ∷ text) → not (get_or (front ++ q ∷ text) k 0 == q) ≡ true
after_at q front text k free above below = grind (arith, free_at, get_or-append_right, length-append)

tail_length : (q : ℕ) (front text : List ℕ) → is_free_of q text ≡ true → suffix_len (λ c. not (c == q)) (front ++ q ∷ text) ≡ length text
tail_length q front text free =
    let tail = suffix_len_is (λ c. not (c == q)) (front ++ q ∷ text) (length front + 1) 0 (omega (arith, length-append front (q ∷ text)))
    (λ k above below. after_at q front text k free above below)
    (λ _. let same : length front ≡ length front + 1 - 1 = omega arith in
    not_from_true _ (eq-eqb _ q (ap (λ k. get_or (front ++ q ∷ text) k 0) (sym same) ∙ get_or-append_seam front q text 0))) in
    omega (arith, tail, length-append front (q ∷ text))

-- a text is cut at its last dot
split_at_dot : (front text enclosing : List ℕ) → is_free_of 46 text ≡ true → split_name (front ++ 46 ∷ text) enclosing ≡ record { namespace = front; simple = text }
split_at_dot front text enclosing free =
    let whole = front ++ 46 ∷ text in
    let all : length whole ≡ length front + length (46 ∷ text) = length-append front (46 ∷ text) in
    let tail = tail_length 46 front text free in
    let before : before_last (λ c. c == 46) whole ≡ front =
    ap (λ k. take k whole) (omega (arith, tail, all)) ∙ take-append_seam front (46 ∷ text) in
    let after : after_last (λ c. c == 46) whole ≡ text =
    ap (λ k. drop k whole) (omega (arith, tail, all)) ∙ drop-append-add front (46 ∷ text) 1 in
    let dot : has_dot whole ≡ true = list_any-append (λ c. c == 46) front (46 ∷ text) ∙ or-true (has_dot front) in
    let parts : List ℕ → List ℕ → Name = λ namespace simple. record { namespace = namespace; simple = simple } in
    cond-true (has_dot whole) _ _ dot ∙ ap (λ namespace. parts namespace (after_last (λ c. c == 46) whole)) before ∙ ap (parts front) after

alone_dotted : (text : List ℕ) → is_simple_name text ≡ true → is_dotted_name text ≡ true
alone_dotted text good = ap (list_all is_simple_name) (part_alone text (simple_free_of 46 refl text good)) ∙ and_from (is_simple_name text) true good refl

both_dotted : (front text : List ℕ) → is_dotted_name front ≡ true → is_simple_name text ≡ true → is_dotted_name (front ++ 46 ∷ text) ≡ true
both_dotted front text spaced good = grind (arith, alone_dotted, and_from, list_all-append, parts_at)

text_dotted : (namespace simple : List ℕ) → is_namespace namespace ≡ true → is_simple_name simple ≡ true → is_dotted_name (name_text (record { namespace = namespace; simple = simple })) ≡ true
text_dotted [] simple spaced good = alone_dotted simple good
text_dotted (c ∷ cs) simple spaced good = both_dotted (c ∷ cs) simple spaced good

text_split : (namespace simple enclosing : List ℕ) → is_simple_name simple ≡ true → (namespace ≡ [] → enclosing ≡ [])
    → split_name (name_text (record { namespace = namespace; simple = simple })) enclosing ≡ record { namespace = namespace; simple = simple }
text_split [] simple enclosing good null =
    let parts : List ℕ → Name = λ namespace. record { namespace = namespace; simple = simple } in
    cond-false (has_dot simple) _ _ (no_dot_in simple (simple_free_of 46 refl simple good)) ∙ ap parts (null refl)
text_split (c ∷ cs) simple enclosing good null = split_at_dot (c ∷ cs) simple enclosing (simple_free_of 46 refl simple good)

pub record IsFull (name : Name) : Type 0 where
  pub spaced : is_namespace name.namespace ≡ true
  pub good : is_simple_name name.simple ≡ true
  pub new : is_primitive_word name.simple ≡ false

pub full_parts : (name : Name) → is_full_name name ≡ true → IsFull name
full_parts name h = grind (arith, and_parts, not-true)

pub name_dotted : (name : Name) → is_full_name name ≡ true → is_dotted_name (name_text name) ≡ true
name_dotted name h = let full = full_parts name h in text_dotted name.namespace name.simple full.spaced full.good

read_as : (text enclosing : List ℕ) (name : Name) → is_dotted_name text ≡ true → split_name text enclosing ≡ name → is_primitive_word name.simple ≡ false → name_of text enclosing ≡ Some name
read_as text enclosing name dotted split new = rw (dotted, split, new) refl

-- in the null namespace, or where a namespace encloses it and its own isn't null
pub name_read : (name : Name) (enclosing : List ℕ) → is_full_name name ≡ true → (name.namespace ≡ [] → enclosing ≡ []) → name_of (name_text name) enclosing ≡ Some name
name_read name enclosing h null = grind (arith, full_parts, name_dotted, read_as, text_split)

pub names_same : (a b : Name) → is_full_name a ≡ true → is_full_name b ≡ true → name_text a ≡ name_text b → a ≡ b
names_same a b first second e = some-is (sym (name_read a [] first (λ _. refl)) ∙ ap (λ text. name_of text []) e ∙ name_read b [] second (λ _. refl))

-- a fullname's characters
abbrev is_full_character : ℕ → Bool
is_full_character c = is_name_character c || c == 46

parts_pass : (parts : List (List ℕ)) → list_all is_simple_name parts ≡ true → list_all (list_all is_name_character) parts ≡ true
parts_pass [] h = refl
parts_pass ([] ∷ parts) h = absurd (false≢true h)
parts_pass ((c ∷ cs) ∷ parts) h =
    let both = and_parts (is_simple_name (c ∷ cs)) (list_all is_simple_name parts) h in
    and_from (list_all is_name_character (c ∷ cs)) (list_all (list_all is_name_character) parts) (simple_passes c cs both.0) (parts_pass parts both.1)

-- a text has a first part
parts_some : (text : List ℕ) → (x : List ℕ) × (rest : List (List ℕ)) × (dotted_parts text ≡ x ∷ rest)
parts_some [] = ([], [], refl)
parts_some (c ∷ cs) =
    let later = parts_some cs in
    elim (c == 46) as (λ dot. (x : List ℕ) × (rest : List (List ℕ)) × (cond dot ([] ∷ dotted_parts cs) (onto_first c (dotted_parts cs)) ≡ x ∷ rest)) [
      | true ↦ ([], dotted_parts cs, refl)
      | false ↦ (c ∷ later.0, later.1, ap (onto_first c) later.2)
    ]

characters_pass : (text : List ℕ) → list_all (list_all is_name_character) (dotted_parts text) ≡ true → list_all is_full_character text ≡ true
characters_pass [] h = refl
characters_pass (c ∷ cs) h =
    let some = parts_some cs in
    (elim (c == 46) as (λ dot. list_all (list_all is_name_character) (cond dot ([] ∷ dotted_parts cs) (onto_first c (dotted_parts cs))) ≡ true
    → ((is_name_character c || dot) && list_all is_full_character cs) ≡ true) [
      | true ↦ λ g. rw (or-true (is_name_character c)) (characters_pass cs g)
      | false ↦ λ g.
          let cut : ((is_name_character c && list_all is_name_character some.0) && list_all (list_all is_name_character) some.1) ≡ true =
          subst (λ parts. list_all (list_all is_name_character) (onto_first c parts) ≡ true) some.2 g in
          let first = and_parts (is_name_character c && list_all is_name_character some.0) (list_all (list_all is_name_character) some.1) cut in
          let here = and_parts (is_name_character c) (list_all is_name_character some.0) first.0 in
          rw here.0 (characters_pass cs (rw some.2 (and_from (list_all is_name_character some.0) (list_all (list_all is_name_character) some.1) here.1 first.1)))
    ]) h

-- a fullname's text has no quote
pub name_free : (name : Name) → is_full_name name ≡ true → is_free_of 34 (name_text name) ≡ true
name_free name h = free_of is_full_character 34 refl (name_text name) (characters_pass (name_text name) (parts_pass (dotted_parts (name_text name)) (name_dotted name h)))
