-- Equal names, and the parts of a text with a dot in it.
use Rattle.std.proofs.Common.{◌≡◌, ℕ, ◌<◌, true, false, ◌&&◌, cond, List, [], ◌∷◌, ◌++◌, length, ◌==◌, refl, sym, ◌∙◌, ap, arith}
use Rattle.std.specs.Prelude.{bytes_eq}
use Rattle.std.specs.Cmp.{both_ways}
use Rattle.std.specs.Cmp.Lexicographic.{slice_cmp}
use Rattle.std.specs.Ordering.{is_eq, nat_cmp, on, then_cmp, ordering_then}
use Rattle.std.specs.declared.cmp.Ordering.{Ordering}
use Rattle.std.specs.declared.cmp.Ordering.TheVariants.{Less, Equal, Greater}
use Rattle.std.proofs.lemmas.Map.Text.{is_eq-slice_cmp}
use Rattle.std.proofs.lemmas.Bool.{and_parts}
use Rattle.std.proofs.lemmas.Slice.Eq.{bytes_eq-Decides}
use Rattle.avro_name.specs.Name.{Name, same_name, onto_first, dotted_parts}

pub bytes_eq-self : (xs : List ℕ) → bytes_eq xs xs ≡ true
bytes_eq-self xs = (bytes_eq-Decides xs xs).1 refl

pub bytes_eq-sym : (xs ys : List ℕ) → bytes_eq xs ys ≡ bytes_eq ys xs
bytes_eq-sym xs ys = both_ways (bytes_eq xs ys) (bytes_eq ys xs)
    (λ h. (bytes_eq-Decides ys xs).1 (sym ((bytes_eq-Decides xs ys).0 h)))
    (λ h. (bytes_eq-Decides xs ys).1 (sym ((bytes_eq-Decides ys xs).0 h)))

pub same_name-self : (a : Name) → same_name a a ≡ true
same_name-self a = rw (bytes_eq-self a.simple, bytes_eq-self a.namespace) refl

pub same_name-sym : (a b : Name) → same_name a b ≡ same_name b a
same_name-sym a b = rw (bytes_eq-sym a.simple b.simple, bytes_eq-sym a.namespace b.namespace) refl

pub same_name-is : (a b : Name) → same_name a b ≡ true → a ≡ b
same_name-is a b h =
    let both = and_parts (bytes_eq a.simple b.simple) (bytes_eq a.namespace b.namespace) h in
    let parts : List ℕ → List ℕ → Name = λ namespace simple. record { namespace = namespace; simple = simple } in
    ap (λ namespace. parts namespace a.simple) ((bytes_eq-Decides a.namespace b.namespace).0 both.1) ∙ ap (parts b.namespace) ((bytes_eq-Decides a.simple b.simple).0 both.0)

-- names are equal just where their order does not tell them apart
pub is_eq-then : (a b : Ordering) → is_eq (ordering_then a b) ≡ (is_eq a && is_eq b)
is_eq-then Less b = refl
is_eq-then Equal b = refl
is_eq-then Greater b = refl

pub is_eq-names : (a b : Name) → is_eq (then_cmp (on (λ (n : Name). n.simple) (slice_cmp nat_cmp)) (on (λ (n : Name). n.namespace) (slice_cmp nat_cmp)) a b) ≡ same_name a b
is_eq-names a b =
    is_eq-then (slice_cmp nat_cmp a.simple b.simple) (slice_cmp nat_cmp a.namespace b.namespace)
    ∙ rw (is_eq-slice_cmp a.simple b.simple, is_eq-slice_cmp a.namespace b.namespace) refl

-- there is a first part
onto_some : (c : ℕ) (parts : List (List ℕ)) → 0 < length (onto_first c parts)
onto_some c [] = omega arith
onto_some c (part ∷ parts) = omega arith

parts_some : (text : List ℕ) → 0 < length (dotted_parts text)
parts_some [] = omega arith
parts_some (c ∷ cs) =
    elim (c == 46) as (λ dot. 0 < length (cond dot ([] ∷ dotted_parts cs) (onto_first c (dotted_parts cs)))) [
      | true ↦ omega arith
      | false ↦ onto_some c (dotted_parts cs)
    ]

-- a character before the first part, where more parts come after
onto_append : (c : ℕ) (parts more : List (List ℕ)) → 0 < length parts → onto_first c (parts ++ more) ≡ onto_first c parts ++ more
onto_append c [] more some = absurd (omega arith)
onto_append c (part ∷ parts) more some = refl

-- the parts before and after a dot
pub parts_at : (xs ys : List ℕ) → dotted_parts (xs ++ 46 ∷ ys) ≡ dotted_parts xs ++ dotted_parts ys
parts_at [] ys = refl
parts_at (c ∷ cs) ys =
    elim (c == 46) as (λ dot. cond dot ([] ∷ dotted_parts (cs ++ 46 ∷ ys)) (onto_first c (dotted_parts (cs ++ 46 ∷ ys)))
    ≡ cond dot ([] ∷ dotted_parts cs) (onto_first c (dotted_parts cs)) ++ dotted_parts ys) [
      | true ↦ ap (λ parts. [] ∷ parts) (parts_at cs ys)
      | false ↦ ap (onto_first c) (parts_at cs ys) ∙ onto_append c (dotted_parts cs) (dotted_parts ys) (parts_some cs)
    ]
