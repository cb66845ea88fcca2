-- Bytes begin with a part of an encoding, or have the fault of one: numbers, contents, indices, keys and heads of blocks.
use Rattle.std.proofs.Common.{◌≡◌, ◌⊎◌, inl, inr, ℕ, zero, suc, ◌-◌, ◌^◌, ◌<◌, ◌≤◌, ℤ, pos, negsuc, nat_abs, Bool, true, false, ◌&&◌, nat_lt, List, [], ◌∷◌, ◌++◌, length, take, drop, get_or, Some, None, refl, sym, ap, ◌∙◌, subst, arith, append_assoc, length-take-le, bytes_eq}
use Rattle.std.specs.List.{list_any, list_all}
use Rattle.std.specs.Str.{is_utf8}
use Rattle.std.proofs.lemmas.Bool.{false≢true}
use Rattle.std.proofs.lemmas.Bool.Decides.{nat_tests}
use Rattle.std.proofs.lemmas.List.{take-append-drop}
use Rattle.std.proofs.lemmas.List.Folds.{list_all-append}
use Rattle.avro_zigzag.specs.Number.{SpellsInt, SpellsLong}
use Rattle.avro_zigzag.proofs.public.NumberOrFault.{long_stands_or_fails, int_stands_or_fails}
use Rattle.avro_zigzag.proofs.public.Spelling.{is_long-zigzag}
use Rattle.avro_schema.specs.Fits.{is_int, is_long}
use Rattle.avro_cursor.specs.Fault.{ReadFault, end_of_input, invalid_boolean, invalid_text, unknown_index, invalid_length, duplicate_key, limit_exceeded, behind}
use Rattle.avro_cursor.specs.Breaks.{number_fault, IntBreaks, LongBreaks, BooleanBreaks, FixedBreaks, StartsWithLong, ContentBreaks, length_breaks, negative, too_long, cut, invalid, IndexBreaks, number_breaks, unknown, KeyBreaks, string_breaks, twice, counted, sized, HeadBreaks, count_fails, count_over, size_fails, size_negative}
use Rattle.avro_cursor.specs.BlockHeads.{IsHeadOrEnd}
use Rattle.avro_cursor.specs.Elements.{IsBoolean, IsInt, IsLong, IsContent, IsString, IsFixed, IsIndex, IsKey}
use Rattle.avro_cursor.proofs.public.ElementLaws.{is_text-from_string}
use Rattle.avro_cursor.proofs.public.HeadLaws.{long-below, least_count}

-- each is a byte
abbrev pub AreBytes : List ℕ → Type 0
AreBytes bytes = list_all (λ b. nat_lt b 256) bytes ≡ true

and-first : (a b : Bool) → (a && b) ≡ true → a ≡ true
and-first true b h = refl
and-first false b h = h

and-second : (a b : Bool) → (a && b) ≡ true → b ≡ true
and-second true b h = h
and-second false b h = absurd (false≢true h)

both-are : (front rest bytes : List ℕ) → AreBytes bytes → bytes ≡ front ++ rest → (list_all (λ b. nat_lt b 256) front && list_all (λ b. nat_lt b 256) rest) ≡ true
both-are front rest bytes h split =
    sym (list_all-append (λ (b : ℕ). nat_lt b 256) front rest) ∙ subst (λ (k : List ℕ). AreBytes k) split h

pub front_are : (front rest bytes : List ℕ) → AreBytes bytes → bytes ≡ front ++ rest → AreBytes front
front_are front rest bytes h split = and-first _ _ (both-are front rest bytes h split)

pub rest_are : (front rest bytes : List ℕ) → AreBytes bytes → bytes ≡ front ++ rest → AreBytes rest
rest_are front rest bytes h split = and-second _ _ (both-are front rest bytes h split)

pub each_below : (bytes : List ℕ) → AreBytes bytes → (i : ℕ) → get_or bytes i 0 < 2 ^ 8
each_below [] h zero = omega arith
each_below [] h (suc i) = omega arith
each_below (b ∷ bytes) h zero = let first : nat_lt b 256 ≡ true = and-first _ _ h in let low : b < 256 = grind (arith, nat_tests) in omega arith
each_below (b ∷ bytes) h (suc i) = each_below bytes (and-second _ _ h) i

-- one of two numbers is the smaller, or they are the same
pub below_or : (m n : ℕ) → (m < n) ⊎ (n ≤ m)
below_or m zero = inr (omega arith)
below_or zero (suc n) = inl (omega arith)
below_or (suc m) (suc n) = elim (below_or m n) [
  | inl h ↦ inl (omega arith)
  | inr h ↦ inr (omega arith)
]

not_below : (m n : ℕ) → n ≤ m → nat_lt m n ≡ false
not_below m n h = grind (arith, nat_tests)

-- an element is at the front, or its fault is
abbrev pub PartOrFault : {A : Type 0} → (A → List ℕ → Type 0) → (List ℕ → ReadFault → Type 0) → List ℕ → Type 0
PartOrFault {A} IsElement ElementBreaks bytes =
    ((x : A) × (front rest : List ℕ) × IsElement x front × (bytes ≡ front ++ rest)) ⊎ ((f : ReadFault) × ElementBreaks bytes f)

pub int_or_fault : (bytes : List ℕ) → AreBytes bytes → PartOrFault IsInt IntBreaks bytes
int_or_fault bytes h = elim (int_stands_or_fails bytes h) [
  | inl g ↦ inl (g.0, g.1, g.2, (g.3, g.4), g.5)
  | inr f ↦ inr (number_fault f.0, (f.0, f.1, refl))
]

pub long_or_fault : (bytes : List ℕ) → AreBytes bytes → PartOrFault IsLong LongBreaks bytes
long_or_fault bytes h = elim (long_stands_or_fails bytes h) [
  | inl g ↦ inl (g.0, g.1, g.2, (g.3, g.4), g.5)
  | inr f ↦ inr (number_fault f.0, (f.0, f.1, refl))
]

pub boolean_or_fault : (bytes : List ℕ) → PartOrFault IsBoolean BooleanBreaks bytes
boolean_or_fault [] = inr (end_of_input 0, refl)
boolean_or_fault (zero ∷ rest) = inl (false, 0 ∷ [], rest, refl, refl)
boolean_or_fault (suc zero ∷ rest) = inl (true, 1 ∷ [], rest, refl, refl)
boolean_or_fault (suc (suc b) ∷ rest) = inr (invalid_boolean 0, (omega arith, refl))

pub fixed_or_fault : (count blob : ℕ) (bytes : List ℕ) → PartOrFault (IsFixed count blob) (FixedBreaks count blob) bytes
fixed_or_fault count blob bytes = elim (below_or blob count) [
  | inl over ↦ inr (limit_exceeded, inl (over, refl))
  | inr small ↦ elim (below_or (length bytes) count) [
    | inl short ↦ inr (end_of_input 0, inr (small, short, refl))
    | inr enough ↦ inl (take count bytes, take count bytes, drop count bytes, (refl, length-take-le count bytes enough, small), sym (take-append-drop count bytes))
  ]
]

-- ---- Content after its length

module _ (is_content : List ℕ → Bool) (blob : ℕ) (bytes : List ℕ) where
  of_kind : (n : ℕ) (number rest : List ℕ) → StartsWithLong (pos n) bytes number rest → n ≤ blob → n ≤ length rest → (b : Bool) → is_content (take n rest) ≡ b
      → PartOrFault (IsContent is_content blob) (ContentBreaks is_content blob) bytes
  of_kind n number rest s small enough false e = inr (invalid_text (length number), invalid n number rest s small enough e)
  of_kind n number rest s small enough true e =
      let size : length (take n rest) ≡ n = length-take-le n rest enough in
      let fits = long-below n s.in_range in
      inl (
        take n rest,
        number ++ take n rest,
        drop n rest,
        record {
          right = e;
          countable = omega arith;
          within = omega arith;
          spelled = (number, subst (λ (k : ℕ). SpellsLong (pos k) number) (sym size) s.spelled, refl);
        },
        s.split ∙ ap (λ (k : List ℕ). number ++ k) (sym (take-append-drop n rest)) ∙ sym (append_assoc number (take n rest) (drop n rest)),
      )

  behind_length : (v : ℤ) (number rest : List ℕ) → StartsWithLong v bytes number rest → PartOrFault (IsContent is_content blob) (ContentBreaks is_content blob) bytes
  behind_length (negsuc n) number rest s = inr (invalid_length 0, negative n number rest s)
  behind_length (pos n) number rest s = elim (below_or blob n) [
    | inl over ↦ inr (limit_exceeded, too_long n number rest s over)
    | inr small ↦ elim (below_or (length rest) n) [
      | inl short ↦ inr (end_of_input (length number), cut n number rest s small short)
      | inr enough ↦ of_kind n number rest s small enough (is_content (take n rest)) refl
    ]
  ]

  pub content_or_fault : AreBytes bytes → PartOrFault (IsContent is_content blob) (ContentBreaks is_content blob) bytes
  content_or_fault h = elim (long_stands_or_fails bytes h) [
    | inl g ↦ behind_length g.0 g.1 g.2 (record { spelled = g.4; in_range = g.3; split = g.5 })
    | inr f ↦ inr (number_fault f.0, length_breaks (f.0, f.1, refl))
  ]

-- ---- The index of a branch or a symbol

among : (choices : ℕ) (bytes : List ℕ) (v : ℤ) (number rest : List ℕ) → is_int v ≡ true → SpellsInt v number → bytes ≡ number ++ rest → PartOrFault (IsIndex choices) (IndexBreaks choices) bytes
among choices bytes (negsuc n) number rest r s e = inr (unknown_index 0, unknown (negsuc n) number rest s r e refl)
among choices bytes (pos n) number rest r s e = elim (below_or n choices) [
  | inl few ↦ inl (n, number, rest, (few, (r, s)), e)
  | inr past ↦ inr (unknown_index 0, unknown (pos n) number rest s r e (not_below n choices past))
]

pub index_or_fault : (choices : ℕ) (bytes : List ℕ) → AreBytes bytes → PartOrFault (IsIndex choices) (IndexBreaks choices) bytes
index_or_fault choices bytes h = elim (int_stands_or_fails bytes h) [
  | inl g ↦ among choices bytes g.0 g.1 g.2 g.3 g.4 g.5
  | inr f ↦ inr (number_fault f.0, number_breaks (f.0, f.1, refl))
]

-- ---- Keys

module _ (keys : List (List ℕ)) (blob : ℕ) (bytes : List ℕ) where
  is_new : (key front rest : List ℕ) → IsString blob key front → bytes ≡ front ++ rest → (b : Bool) → list_any (bytes_eq key) keys ≡ b
      → PartOrFault (IsKey keys blob) (KeyBreaks keys blob) bytes
  is_new key front rest is split false e = inl (key, front, rest, (is, e), split)
  is_new key front rest is split true e = inr (duplicate_key 0, twice key front rest is.spelled (is_text-from_string blob key front is) is.within split e)

  pub key_or_fault : AreBytes bytes → PartOrFault (IsKey keys blob) (KeyBreaks keys blob) bytes
  key_or_fault h = elim (content_or_fault is_utf8 blob bytes h) [
    | inl g ↦ is_new g.0 g.1 g.2 g.3 g.4 (list_any (bytes_eq g.0) keys) refl
    | inr f ↦ inr (f.0, string_breaks f.1)
  ]

-- ---- Heads of blocks

abbrev is_below_zero : ℤ → Bool
is_below_zero (pos n) = false
is_below_zero (negsuc n) = true

-- a long below 0 is no less than -2^63
negative-least : (n : ℕ) → is_long (negsuc n) ≡ true → n < 2 ^ 63
negative-least n h = omega (arith, is_long-zigzag (negsuc n) h)

module _ (nodes : ℕ) (bytes : List ℕ) where
  -- a size after a count
  behind_count : (n : ℕ) (number rest : List ℕ) → StartsWithLong (negsuc n) bytes number rest → suc n < 2 ^ 63 → n < nodes → (v : ℤ) (size more : List ℕ) → StartsWithLong v rest size more
      → PartOrFault (IsHeadOrEnd nodes) (HeadBreaks nodes) bytes
  behind_count n number rest s small few (negsuc m) size more t = inr (invalid_length (length number), size_negative n m number size rest more s.spelled small few s.split t)
  behind_count n number rest s small few (pos m) size more t = inl (
    Some (sized (suc n) m number size),
    number ++ size,
    more,
    ((omega arith, small, omega arith, long-below m t.in_range, s.spelled, t.spelled), refl),
    s.split ∙ ap (λ (k : List ℕ). number ++ k) t.split ∙ sym (append_assoc number size more),
  )

  with_size : AreBytes bytes → (n : ℕ) (number rest : List ℕ) → StartsWithLong (negsuc n) bytes number rest → suc n < 2 ^ 63 → n < nodes
      → PartOrFault (IsHeadOrEnd nodes) (HeadBreaks nodes) bytes
  with_size h n number rest s small few = elim (long_stands_or_fails rest (rest_are number rest bytes h s.split)) [
    | inl g ↦ behind_count n number rest s small few g.0 g.1 g.2 (record { spelled = g.4; in_range = g.3; split = g.5 })
    | inr f ↦ inr (
      behind (length number) (number_fault f.0),
      size_fails n number s.spelled small few (record { rest = rest; fault = number_fault f.0; split = s.split; breaks = (f.0, f.1, refl); moved = refl }),
    )
  ]

  by_count : AreBytes bytes → (v : ℤ) (number rest : List ℕ) → StartsWithLong v bytes number rest → PartOrFault (IsHeadOrEnd nodes) (HeadBreaks nodes) bytes
  by_count h (pos zero) number rest s = inl (None, number, rest, s.spelled, s.split)
  by_count h (pos (suc n)) number rest s = elim (below_or nodes (suc n)) [
    | inl over ↦ inr (limit_exceeded, count_over (pos (suc n)) number rest s (λ e. false≢true (ap is_below_zero e)) over)
    | inr few ↦ inl (Some (counted (suc n) number), number, rest, ((omega arith, long-below (suc n) s.in_range, few, s.spelled), refl), s.split)
  ]
  by_count h (negsuc n) number rest s = elim (below_or n (2 ^ 63 - 1)) [
    | inl small ↦ elim (below_or nodes (suc n)) [
      | inl over ↦ inr (limit_exceeded, count_over (negsuc n) number rest s (λ e. let same = ap nat_abs e in absurd (omega arith)) over)
      | inr few ↦ with_size h n number rest s (omega arith) (omega arith)
    ]
    | inr least ↦
        let most = negative-least n s.in_range in
        inr (invalid_length 0, least_count nodes bytes (negsuc n) number rest s (ap negsuc (let same : n ≡ 2 ^ 63 - 1 = omega arith in same)))
  ]

  pub head_or_fault : AreBytes bytes → PartOrFault (IsHeadOrEnd nodes) (HeadBreaks nodes) bytes
  head_or_fault h = elim (long_stands_or_fails bytes h) [
    | inl g ↦ by_count h g.0 g.1 g.2 (record { spelled = g.4; in_range = g.3; split = g.5 })
    | inr f ↦ inr (number_fault f.0, count_fails (f.0, f.1, refl))
  ]
