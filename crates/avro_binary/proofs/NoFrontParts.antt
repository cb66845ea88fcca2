-- A part that breaks begins with no whole part of its kind.
use Rattle.std.proofs.Common.{◌≡◌, inl, inr, ℕ, ◌^◌, ◌<◌, ◌≤◌, ℤ, pos, negsuc, Bool, true, List, [], ◌∷◌, ◌++◌, length, take, refl, sym, ap, ◌∙◌, subst, append_assoc, length-append, arith}
use Rattle.std.specs.Prelude.{nat_lt, bytes_eq, not}
use Rattle.std.specs.List.{list_any}
use Rattle.std.proofs.Math.Seq.{take-append_seam}
use Rattle.std.proofs.lemmas.Bool.{and_parts, false≢true, or_cases, or_left, or_right, not-true}
use Rattle.std.proofs.lemmas.Bool.Decides.{nat_tests}
use Rattle.std.proofs.lemmas.Slice.Eq.{bytes_eq-Decides}
use Rattle.avro_zigzag.specs.Number.{SpellsInt}
use Rattle.avro_zigzag.proofs.public.Faults.{long-excludes_fault}
use Rattle.avro_zigzag.proofs.public.Spelling.{one_spelling_lem}
use Rattle.avro_schema.specs.Fits.{is_int}
use Rattle.avro_schema.specs.Distinct.{are_distinct}
use Rattle.avro_cursor.specs.Encoding.{SpellsBytes}
use Rattle.avro_cursor.specs.Fault.{ReadFault, limit_exceeded}
use Rattle.avro_cursor.specs.Breaks.{ContentBreaks, StartsWithLong, IndexBreaks}
use Rattle.avro_cursor.proofs.public.Fronts.{same_behind, same_from_pos}
use Rattle.avro_cursor.proofs.public.ElementLaws.{long_count, index_part}

-- ---- A length and its content

-- where the length is there, it is that of the content, and the content follows
pub content_at : (v : ℤ) (bytes number rest content front x : List ℕ) → StartsWithLong v bytes number rest → SpellsBytes content front → bytes ≡ front ++ x
    → (v ≡ pos (length content)) × (rest ≡ content ++ x)
content_at v bytes number rest content front x t s e =
    let joined : number ++ rest ≡ s.0 ++ (content ++ x) = sym t.split ∙ e ∙ ap (λ (g : List ℕ). g ++ x) s.2 ∙ append_assoc s.0 content x in
    let same = one_spelling_lem v (pos (length content)) number s.0 rest (content ++ x) t.spelled s.1 joined in
    (same.1, same_behind number s.0 rest (content ++ x) same.0 joined)

-- a content within limits that is at the front is none that breaks
pub content_none : (W : Type 0) (is_content : List ℕ → Bool) (blob : ℕ) (bytes : List ℕ) (f : ReadFault) (content front rest : List ℕ)
    → ContentBreaks is_content blob bytes f → (f ≡ limit_exceeded → W) → (W → length content ≤ blob) → SpellsBytes content front
    → length content < 2 ^ 63 → is_content content ≡ true → bytes ≡ front ++ rest → ⊥
content_none W is_content blob bytes f content front rest (ContentBreaks.length_breaks b) limit small s few good e =
    let split : bytes ≡ s.0 ++ (content ++ rest) = e ∙ ap (λ (g : List ℕ). g ++ rest) s.2 ∙ append_assoc s.0 content rest in
    long-excludes_fault (pos (length content)) bytes s.0 (content ++ rest) b.0 (long_count (length content) few) s.1 split b.1
content_none W is_content blob bytes _ content front rest (ContentBreaks.negative n number x t) limit small s few good e =
    let same = (content_at (negsuc n) bytes number x content front rest t s e).0 in cc
content_none W is_content blob bytes _ content front rest (ContentBreaks.too_long n number x t over) limit small s few good e =
    let same = same_from_pos n (length content) (content_at (pos n) bytes number x content front rest t s e).0 in
    omega (arith, small (limit refl))
content_none W is_content blob bytes _ content front rest (ContentBreaks.cut n number x t within short) limit small s few good e =
    let same = content_at (pos n) bytes number x content front rest t s e in
    omega (arith, same_from_pos n (length content) same.0, ap length same.1, length-append content rest)
content_none W is_content blob bytes _ content front rest (ContentBreaks.invalid n number x t within there bad) limit small s few good e =
    let same = content_at (pos n) bytes number x content front rest t s e in
    let taken : take n x ≡ content =
    ap (λ (k : ℕ). take k x) (same_from_pos n (length content) same.0) ∙ ap (take (length content)) same.1 ∙ take-append_seam content rest in
    false≢true (sym bad ∙ ap is_content taken ∙ good)

-- ---- The index of one of some choices

pub pos-int : (k choices : ℕ) → k < choices → choices ≤ 2 ^ 31 → is_int (pos k) ≡ true
pos-int k choices below few = grind (arith, nat_tests)

pub below-from_test : (k n : ℕ) → nat_lt k n ≡ true → k < n
below-from_test k n h = grind (arith, nat_tests)

pub index_none : (choices : ℕ) (bytes : List ℕ) (f : ReadFault) (k : ℕ) (front rest : List ℕ) → IndexBreaks choices bytes f → k < choices → choices ≤ 2 ^ 31
    → SpellsInt (pos k) front → bytes ≡ front ++ rest → ⊥
index_none choices bytes f k front rest b below few s e =
    (index_part choices).excludes k front rest f (below, (pos-int k choices below few, s)) (subst (λ (q : List ℕ). IndexBreaks choices q f) e b)

-- ---- Keys

same_key : (k : List ℕ) → bytes_eq k k ≡ true
same_key k = (bytes_eq-Decides k k).1 refl

key_among : (keys : List (List ℕ)) (k : List ℕ) (ks : List (List ℕ)) → list_any (bytes_eq k) (keys ++ k ∷ ks) ≡ true
key_among [] k ks = or_left (bytes_eq k k) (list_any (bytes_eq k) ks) (same_key k)
key_among (x ∷ keys) k ks = or_right (bytes_eq k x) (list_any (bytes_eq k) (keys ++ k ∷ ks)) (key_among keys k ks)

-- of distinct keys none occurs before itself
pub not_before : (keys : List (List ℕ)) (k : List ℕ) (ks : List (List ℕ)) → are_distinct bytes_eq (keys ++ k ∷ ks) ≡ true → list_any (bytes_eq k) keys ≡ true → ⊥
not_before [] k ks d h = false≢true h
not_before (x ∷ keys) k ks d h =
    let parts = and_parts (not (list_any (bytes_eq x) (keys ++ k ∷ ks))) (are_distinct bytes_eq (keys ++ k ∷ ks)) d in
    elim (or_cases (bytes_eq k x) (list_any (bytes_eq k) keys) h) [
      | inl e ↦
          let same : k ≡ x = (bytes_eq-Decides k x).0 e in
          let among = subst (λ (y : List ℕ). list_any (bytes_eq y) (keys ++ k ∷ ks) ≡ true) same (key_among keys k ks) in
          false≢true (sym (not-true (list_any (bytes_eq x) (keys ++ k ∷ ks)) parts.0) ∙ among)
      | inr e ↦ not_before keys k ks parts.1 e
    ]
