-- What the first fault of a text says of its parts.
use Rattle.std.proofs.Common.{◌≡◌, ℕ, Bool, true, false, not, ◌&&◌, ◌||◌, cond, List, [], ◌∷◌, Option, Some, None, is_none, ◌==◌, refl, sym, ◌∙◌, ap, subst}
use Rattle.std.specs.Bool.{⊤}
use Rattle.std.specs.List.{list_all, list_any}
use Rattle.avro_name.specs.declared.error.NameError.{NameError}
use Rattle.avro_name.specs.declared.error.NameError.TheVariants.{EmptyPart, BadCharacter, PrimitiveName, OutOfMemory}
use Rattle.avro_name.specs.Name.{is_name_start, is_name_character, is_simple_name, onto_first, dotted_parts, is_dotted_name, is_empty_text, is_misspelled}
use Rattle.avro_name.specs.NameFault.{IsNamespaceFault}
use Rattle.avro_name.specs.inside.Scan.{first_fault}

-- the parts are simple names, or the first of them is the end of one
abbrev are_good : Bool → List (List ℕ) → Bool
are_good true parts = list_all is_simple_name parts
are_good false [] = true
are_good false (part ∷ parts) = list_all is_name_character part && list_all is_simple_name parts

-- some part is empty, where the first of them may be the end of one
abbrev have_empty : Bool → List (List ℕ) → Bool
have_empty true parts = list_any is_empty_text parts
have_empty false [] = false
have_empty false (part ∷ parts) = list_any is_empty_text parts

-- some part has a bad character, where the first of them may be the end of one
abbrev have_bad : Bool → List (List ℕ) → Bool
have_bad true parts = list_any is_misspelled parts
have_bad false [] = false
have_bad false (part ∷ parts) = list_any (λ c. not (is_name_character c)) part || list_any is_misspelled parts

-- the fault is one of these parts
abbrev IsFaultOf : Bool → List (List ℕ) → Option NameError → Type 0
IsFaultOf begins parts None = ⊤
IsFaultOf begins parts (Some EmptyPart) = have_empty begins parts ≡ true
IsFaultOf begins parts (Some BadCharacter) = have_bad begins parts ≡ true
IsFaultOf begins parts (Some PrimitiveName) = ⊥
IsFaultOf begins parts (Some OutOfMemory) = ⊥

-- `&&` is associative
and_assoc : (x y z : Bool) → ((x && y) && z) ≡ (x && (y && z))
and_assoc true y z = refl
and_assoc false y z = refl

-- `||` is associative
or_assoc : (x y z : Bool) → ((x || y) || z) ≡ (x || (y || z))
or_assoc true y z = refl
or_assoc false y z = refl

-- a first character before the parts
good_start : (c : ℕ) (parts : List (List ℕ)) → are_good true (onto_first c parts) ≡ (is_name_start c && are_good false parts)
good_start c [] = and_assoc (is_name_start c) true true
good_start c (part ∷ parts) = and_assoc (is_name_start c) (list_all is_name_character part) (list_all is_simple_name parts)

-- a further character before the parts
good_more : (c : ℕ) (parts : List (List ℕ)) → are_good false (onto_first c parts) ≡ (is_name_character c && are_good false parts)
good_more c [] = and_assoc (is_name_character c) true true
good_more c (part ∷ parts) = and_assoc (is_name_character c) (list_all is_name_character part) (list_all is_simple_name parts)

-- the parts are good just where there is no fault
good_is : (begins : Bool) (text : List ℕ) → are_good begins (dotted_parts text) ≡ is_none (first_fault begins text)
good_is true [] = refl
good_is false [] = refl
good_is true (c ∷ cs) =
    elim (c == 46) as (λ dot. are_good true (cond dot ([] ∷ dotted_parts cs) (onto_first c (dotted_parts cs)))
    ≡ is_none (cond dot (Some EmptyPart) (cond (is_name_start c) (first_fault false cs) (Some BadCharacter)))) [
      | true ↦ refl
      | false ↦ good_start c (dotted_parts cs) ∙ ap (λ b. is_name_start c && b) (good_is false cs)
          ∙ elim (is_name_start c) as (λ s. (s && is_none (first_fault false cs)) ≡ is_none (cond s (first_fault false cs) (Some BadCharacter))) [ true ↦ refl | false ↦ refl ]
    ]
good_is false (c ∷ cs) =
    elim (c == 46) as (λ dot. are_good false (cond dot ([] ∷ dotted_parts cs) (onto_first c (dotted_parts cs)))
    ≡ is_none (cond dot (first_fault true cs) (cond (is_name_character c) (first_fault false cs) (Some BadCharacter)))) [
      | true ↦ good_is true cs
      | false ↦ good_more c (dotted_parts cs) ∙ ap (λ b. is_name_character c && b) (good_is false cs)
          ∙ elim (is_name_character c) as (λ s. (s && is_none (first_fault false cs)) ≡ is_none (cond s (first_fault false cs) (Some BadCharacter))) [ true ↦ refl | false ↦ refl ]
    ]

-- a text of simple names joined by dots has no fault
pub no_fault : (text : List ℕ) → is_dotted_name text ≡ is_none (first_fault true text)
no_fault = good_is true

-- no empty part comes or goes by a character before the first
empty_start : (c : ℕ) (parts : List (List ℕ)) → have_empty true (onto_first c parts) ≡ have_empty false parts
empty_start c [] = refl
empty_start c (part ∷ parts) = refl

empty_more : (c : ℕ) (parts : List (List ℕ)) → have_empty false (onto_first c parts) ≡ have_empty false parts
empty_more c [] = refl
empty_more c (part ∷ parts) = refl

-- a first character before the parts
bad_start : (c : ℕ) (parts : List (List ℕ)) → have_bad true (onto_first c parts) ≡ (not (is_name_start c) || have_bad false parts)
bad_start c [] = or_assoc (not (is_name_start c)) false false
bad_start c (part ∷ parts) = or_assoc (not (is_name_start c)) (list_any (λ d. not (is_name_character d)) part) (list_any is_misspelled parts)

-- a further character before the parts
bad_more : (c : ℕ) (parts : List (List ℕ)) → have_bad false (onto_first c parts) ≡ (not (is_name_character c) || have_bad false parts)
bad_more c [] = or_assoc (not (is_name_character c)) false false
bad_more c (part ∷ parts) = or_assoc (not (is_name_character c)) (list_any (λ d. not (is_name_character d)) part) (list_any is_misspelled parts)

-- a fault of the parts is one with a character before the first
fault_kept : (begins : Bool) (parts longer : List (List ℕ)) (fault : Option NameError) → have_empty begins longer ≡ have_empty false parts
    → have_bad begins longer ≡ have_bad false parts → IsFaultOf false parts fault → IsFaultOf begins longer fault
fault_kept begins parts longer None e b h = tt
fault_kept begins parts longer (Some EmptyPart) e b h = e ∙ h
fault_kept begins parts longer (Some BadCharacter) e b h = b ∙ h
fault_kept begins parts longer (Some PrimitiveName) e b h = h
fault_kept begins parts longer (Some OutOfMemory) e b h = h

-- a fault of the parts is one with an empty part before them, as that of a part that ends here
fault_after : (parts : List (List ℕ)) (fault : Option NameError) → IsFaultOf true parts fault → IsFaultOf false ([] ∷ parts) fault
fault_after parts None h = tt
fault_after parts (Some EmptyPart) h = h
fault_after parts (Some BadCharacter) h = h
fault_after parts (Some PrimitiveName) h = h
fault_after parts (Some OutOfMemory) h = h

-- the first fault from a place on is one of the parts from there on
fault_is : (begins : Bool) (text : List ℕ) → IsFaultOf begins (dotted_parts text) (first_fault begins text)
fault_is true [] = refl
fault_is false [] = tt
fault_is true (c ∷ cs) =
    elim (c == 46) as (λ dot. IsFaultOf true (cond dot ([] ∷ dotted_parts cs) (onto_first c (dotted_parts cs)))
    (cond dot (Some EmptyPart) (cond (is_name_start c) (first_fault false cs) (Some BadCharacter)))) [
      | true ↦ refl
      | false ↦ let rest = fault_is false cs in let bad = bad_start c (dotted_parts cs) in
          elim (is_name_start c) as (λ s. have_bad true (onto_first c (dotted_parts cs)) ≡ (not s || have_bad false (dotted_parts cs))
          → IsFaultOf true (onto_first c (dotted_parts cs)) (cond s (first_fault false cs) (Some BadCharacter))) [
            | true ↦ λ b. fault_kept true (dotted_parts cs) (onto_first c (dotted_parts cs)) (first_fault false cs) (empty_start c (dotted_parts cs)) b rest
            | false ↦ λ b. b
          ] bad
    ]
fault_is false (c ∷ cs) =
    elim (c == 46) as (λ dot. IsFaultOf false (cond dot ([] ∷ dotted_parts cs) (onto_first c (dotted_parts cs)))
    (cond dot (first_fault true cs) (cond (is_name_character c) (first_fault false cs) (Some BadCharacter)))) [
      | true ↦ fault_after (dotted_parts cs) (first_fault true cs) (fault_is true cs)
      | false ↦ let rest = fault_is false cs in let bad = bad_more c (dotted_parts cs) in
          elim (is_name_character c) as (λ s. have_bad false (onto_first c (dotted_parts cs)) ≡ (not s || have_bad false (dotted_parts cs))
          → IsFaultOf false (onto_first c (dotted_parts cs)) (cond s (first_fault false cs) (Some BadCharacter))) [
            | true ↦ λ b. fault_kept false (dotted_parts cs) (onto_first c (dotted_parts cs)) (first_fault false cs) (empty_more c (dotted_parts cs)) b rest
            | false ↦ λ b. b
          ] bad
    ]

from_parts : (text : List ℕ) (fault : NameError) → IsFaultOf true (dotted_parts text) (Some fault) → IsNamespaceFault text fault
from_parts text EmptyPart h = h
from_parts text BadCharacter h = h
from_parts text PrimitiveName h = h
from_parts text OutOfMemory h = tt

-- the fault that is found is there
pub fault_found : (text : List ℕ) (fault : NameError) → Some fault ≡ first_fault true text → IsNamespaceFault text fault
fault_found text fault e = from_parts text fault (subst (λ (found : Option NameError). IsFaultOf true (dotted_parts text) found) (sym e) (fault_is true text))
