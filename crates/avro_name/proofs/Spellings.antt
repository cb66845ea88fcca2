-- Simple names and their faults.
use Rattle.std.proofs.Common.{◌≡◌, ℕ, Bool, true, false, not, ◌&&◌, ◌||◌, List, [], ◌∷◌, refl, ap, ◌∙◌}
use Rattle.std.specs.List.{list_all, list_any}
use Rattle.avro_name.specs.Name.{is_name_start, is_name_character, is_simple_name, dotted_parts, is_dotted_name, is_empty_text, has_empty_part, is_misspelled, has_bad_character}

-- all pass just where none fails
all_or_any : (p : ℕ → Bool) (xs : List ℕ) → list_all p xs ≡ not (list_any (λ x. not (p x)) xs)
all_or_any p [] = refl
all_or_any p (x ∷ xs) =
    ap (λ b. p x && b) (all_or_any p xs) ∙ elim (p x) as (λ b. (b && not (list_any (λ y. not (p y)) xs)) ≡ not (not b || list_any (λ y. not (p y)) xs)) [ true ↦ refl | false ↦ refl ]

-- a part is a simple name just where it is not empty and has no bad character
simple_or_fault : (text : List ℕ) → is_simple_name text ≡ (not (is_empty_text text) && not (is_misspelled text))
simple_or_fault [] = refl
simple_or_fault (c ∷ cs) =
    ap (λ b. is_name_start c && b) (all_or_any is_name_character cs)
    ∙ elim (is_name_start c) as (λ b. (b && not (list_any (λ d. not (is_name_character d)) cs)) ≡ not (not b || list_any (λ d. not (is_name_character d)) cs)) [ true ↦ refl | false ↦ refl ]

-- a test of two faults in a part, and in those after it
both_faults : (e m es ms : Bool) → ((not e && not m) && (not es && not ms)) ≡ (not (e || es) && not (m || ms))
both_faults true m es ms = refl
both_faults false true true ms = refl
both_faults false true false ms = refl
both_faults false false true ms = refl
both_faults false false false ms = refl

-- and so for all the parts
parts_or_fault : (parts : List (List ℕ)) → list_all is_simple_name parts ≡ (not (list_any is_empty_text parts) && not (list_any is_misspelled parts))
parts_or_fault [] = refl
parts_or_fault (part ∷ parts) =
    ap (λ b. b && list_all is_simple_name parts) (simple_or_fault part)
    ∙ ap (λ b. (not (is_empty_text part) && not (is_misspelled part)) && b) (parts_or_fault parts)
    ∙ both_faults (is_empty_text part) (is_misspelled part) (list_any is_empty_text parts) (list_any is_misspelled parts)

-- a text is simple names joined by dots just where no part has a fault
pub dotted_or_fault_lem : (text : List ℕ) → is_dotted_name text ≡ (not (has_empty_part text) && not (has_bad_character text))
dotted_or_fault_lem text = parts_or_fault (dotted_parts text)
