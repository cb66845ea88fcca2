-- What the calls of a cursor answer, from what they read.
use Rattle.std.proofs.Common.{◌≡◌, ℕ, ◌+◌, ◌-◌, ◌<◌, ◌≤◌, ℤ, pos, negsuc, ◌<ℤ◌, Bool, true, false, List, [], ◌∷◌, ◌++◌, length, take, drop, Ok, Err, Some, None, refl, sym, ap, ◌∙◌, subst, arith, length-append, add-zero, slice_get, append_assoc, length-take-le}
use Rattle.std.proofs.lemmas.List.{take-append-drop}
use Rattle.std.proofs.lemmas.Int.{ints}
use Rattle.std.proofs.Math.Seq.{take-append_seam}
use Rattle.std.specs.Str.{is_utf8, IsUtf8}
use Rattle.std.proofs.lemmas.Str.{IsUtf8-from_is_utf8}
use Rattle.avro_zigzag.specs.Number.{SpellsInt, SpellsLong}
use Rattle.avro_zigzag.specs.NumberFault.{LongFails, IntFails}
use Rattle.avro_zigzag.specs.declared.VarError.{VarError}
use Rattle.avro_schema.specs.Fits.{is_int, is_long}
use Rattle.avro_cursor.specs.Fault.{ReadFault, end_of_input, invalid_boolean, invalid_text, unknown_index, invalid_length, limit_exceeded, behind}
use Rattle.avro_cursor.specs.Breaks.{number_fault, IntBreaks, LongBreaks, BooleanBreaks, is_index, IndexBreaks, number_breaks, unknown, StartsWithLong, ContentBreaks, negative, too_long, cut, invalid}
use Rattle.avro_cursor.specs.Seen.{read_fault}
use Rattle.avro_cursor.specs.CursorValue.{CursorValue, Passes}
use Rattle.avro_cursor.specs.Elements.{IsBoolean, IsInt, IsLong, IsContent, IsIndex, ReadsElement, ContentStands}
use Rattle.avro_cursor.specs.declared.error.ReadError.{ReadError}
use Rattle.avro_cursor.proofs.public.HeadLaws.{long-below}
use Rattle.avro_cursor.proofs.public.ElementLaws.{long_count, element_found, element_refused, int_part, long_part, boolean_part, index_part}

pub int_found : (before after : CursorValue) (bytes : List ℕ) (value answer : ℤ) (len : ℕ) → bytes ≡ before.bytes → answer ≡ value
    → SpellsInt value (take len bytes) → is_int value ≡ true → Passes before (take len before.bytes) after
    → ReadsElement (λ v. v) IsInt IntBreaks before after (Ok answer)
int_found before after bytes value answer len same is spelled in_range passes =
    element_found (λ v. v) IsInt IntBreaks int_part before after answer (take len before.bytes)
    (rw is in_range, rw (is, ← same) spelled) passes

pub int_refused : (before : CursorValue) (bytes : List ℕ) (e : VarError) (error : ReadError) (offset : ℕ) → bytes ≡ before.bytes → offset ≡ before.offset
    → IntFails bytes e → read_fault error ≡ Some (behind offset (number_fault e))
    → ReadsElement (λ v. v) IsInt IntBreaks before before (Err error)
int_refused before bytes e error offset same at fails reports =
    element_refused (λ v. v) IsInt IntBreaks int_part before before error (number_fault e)
    (e, subst (λ (b : List ℕ). IntFails b e) same fails, refl) (reports ∙ ap (λ (n : ℕ). Some (behind n (number_fault e))) at) refl

pub long_found : (before after : CursorValue) (bytes : List ℕ) (value answer : ℤ) (len : ℕ) → bytes ≡ before.bytes → answer ≡ value
    → SpellsLong value (take len bytes) → is_long value ≡ true → Passes before (take len before.bytes) after
    → ReadsElement (λ v. v) IsLong LongBreaks before after (Ok answer)
long_found before after bytes value answer len same is spelled in_range passes =
    element_found (λ v. v) IsLong LongBreaks long_part before after answer (take len before.bytes)
    (rw is in_range, rw (is, ← same) spelled) passes

pub long_refused : (before : CursorValue) (bytes : List ℕ) (e : VarError) (error : ReadError) (offset : ℕ) → bytes ≡ before.bytes → offset ≡ before.offset
    → LongFails bytes e → read_fault error ≡ Some (behind offset (number_fault e))
    → ReadsElement (λ v. v) IsLong LongBreaks before before (Err error)
long_refused before bytes e error offset same at fails reports =
    element_refused (λ v. v) IsLong LongBreaks long_part before before error (number_fault e)
    (e, subst (λ (b : List ℕ). LongFails b e) same fails, refl) (reports ∙ ap (λ (n : ℕ). Some (behind n (number_fault e))) at) refl

-- an offset, as a fault at the front reports it
pub from_front : (make : ℕ → ReadFault) (start offset : ℕ) → offset ≡ start → Some (make offset) ≡ Some (make (start + 0))
from_front make start offset same = ap (λ (n : ℕ). Some (make n)) (same ∙ sym (add-zero start))

boolean-ends : (bytes : List ℕ) → slice_get bytes 0 ≡ None → BooleanBreaks bytes (end_of_input 0)
boolean-ends [] h = refl
boolean-ends (x ∷ bytes) h = absurd cc

boolean-high : (bytes : List ℕ) (x : ℕ) → slice_get bytes 0 ≡ Some x → 1 < x → BooleanBreaks bytes (invalid_boolean 0)
boolean-high [] x h high = absurd cc
boolean-high (y ∷ bytes) x h high = let same : y ≡ x = cc in (rw same high, refl)

pub boolean_ended : (before : CursorValue) (bytes : List ℕ) (offset : ℕ) → bytes ≡ before.bytes → offset ≡ before.offset → slice_get bytes 0 ≡ None
    → ReadsElement (λ b. b) IsBoolean BooleanBreaks before before (Err (ReadError.EndOfInput offset))
boolean_ended before bytes offset same at none =
    element_refused (λ b. b) IsBoolean BooleanBreaks boolean_part before before (ReadError.EndOfInput offset) (end_of_input 0)
    (boolean-ends before.bytes (rw (← same) none)) (from_front end_of_input before.offset offset at) refl

pub boolean_refused : (before : CursorValue) (bytes : List ℕ) (x offset : ℕ) → bytes ≡ before.bytes → offset ≡ before.offset → slice_get bytes 0 ≡ Some x → 1 < x
    → ReadsElement (λ b. b) IsBoolean BooleanBreaks before before (Err (ReadError.InvalidBoolean offset))
boolean_refused before bytes x offset same at some high =
    element_refused (λ b. b) IsBoolean BooleanBreaks boolean_part before before (ReadError.InvalidBoolean offset) (invalid_boolean 0)
    (boolean-high before.bytes x (rw (← same) some) high) (from_front invalid_boolean before.offset offset at) refl

pub index_unknown : (before : CursorValue) (bytes : List ℕ) (choices : ℕ) (value : ℤ) (len offset : ℕ) → bytes ≡ before.bytes → offset ≡ before.offset
    → SpellsInt value (take len bytes) → is_int value ≡ true → is_index choices value ≡ false
    → ReadsElement (λ n. n) (IsIndex choices) (IndexBreaks choices) before before (Err (ReadError.UnknownIndex offset))
index_unknown before bytes choices value len offset same at spelled in_range none =
    element_refused (λ n. n) (IsIndex choices) (IndexBreaks choices) (index_part choices) before before (ReadError.UnknownIndex offset) (unknown_index 0)
    (unknown value (take len bytes) (drop len bytes) spelled in_range (sym same ∙ sym (take-append-drop len bytes)) none)
    (from_front unknown_index before.offset offset at) refl

pub index_found : (before after : CursorValue) (bytes : List ℕ) (choices : ℕ) (value : ℤ) (answer len : ℕ) → bytes ≡ before.bytes → value ≡ pos answer
    → answer < choices → SpellsInt value (take len bytes) → is_int value ≡ true → Passes before (take len before.bytes) after
    → ReadsElement (λ n. n) (IsIndex choices) (IndexBreaks choices) before after (Ok answer)
index_found before after bytes choices value answer len same is small spelled in_range passes =
    element_found (λ n. n) (IsIndex choices) (IndexBreaks choices) (index_part choices) before after answer (take len before.bytes)
    (small, (subst (λ (v : ℤ). is_int v ≡ true) is in_range, subst (λ (v : ℤ). SpellsInt v (take len before.bytes)) is (rw (← same) spelled))) passes

pub index_refused : (before : CursorValue) (bytes : List ℕ) (choices : ℕ) (e : VarError) (error : ReadError) (offset : ℕ) → bytes ≡ before.bytes → offset ≡ before.offset
    → IntFails bytes e → read_fault error ≡ Some (behind offset (number_fault e))
    → ReadsElement (λ n. n) (IsIndex choices) (IndexBreaks choices) before before (Err error)
index_refused before bytes choices e error offset same at fails reports =
    element_refused (λ n. n) (IsIndex choices) (IndexBreaks choices) (index_part choices) before before error (number_fault e)
    (number_breaks (e, subst (λ (b : List ℕ). IntFails b e) same fails, refl)) (reports ∙ ap (λ (n : ℕ). Some (behind n (number_fault e))) at) refl

-- a number that was read is at the front
pub starts_with_long : (v : ℤ) (bytes : List ℕ) (len : ℕ) → SpellsLong v (take len bytes) → is_long v ≡ true → StartsWithLong v bytes (take len bytes) (drop len bytes)
starts_with_long v bytes len spelled in_range = record { spelled = spelled; in_range = in_range; split = sym (take-append-drop len bytes) }

module _ (is_content : List ℕ → Bool) (blob : ℕ) (bytes : List ℕ) where
  -- a length below 0
  pub length_negative : (v : ℤ) (number rest : List ℕ) → StartsWithLong v bytes number rest → v <ℤ pos 0 → ContentBreaks is_content blob bytes (invalid_length 0)
  length_negative (negsuc n) number rest s h = negative n number rest s
  length_negative (pos n) number rest s h = absurd (omega (arith, ints))

  -- a length over the limit
  pub length_over : (v : ℤ) (number rest : List ℕ) → StartsWithLong v bytes number rest → pos blob <ℤ v → ContentBreaks is_content blob bytes limit_exceeded
  length_over (negsuc n) number rest s h = absurd (omega (arith, ints))
  length_over (pos n) number rest s h = too_long n number rest s (omega (arith, ints))

  -- a length whose content is cut
  pub content_cut : (n len start offset : ℕ) → StartsWithLong (pos n) bytes (take len bytes) (drop len bytes) → n ≤ blob → length (drop len bytes) < n → len ≤ length bytes
      → offset ≡ start + len
      → (f : ReadFault) × ContentBreaks is_content blob bytes f × (Some (end_of_input offset) ≡ Some (behind start f))
  content_cut n len start offset s small short inside at = (
    end_of_input (length (take len bytes)),
    cut n (take len bytes) (drop len bytes) s small short,
    ap (λ (k : ℕ). Some (end_of_input k)) (at ∙ ap (λ (k : ℕ). start + k) (sym (length-take-le len bytes inside))),
  )

-- a content after its length
pub content_stands : (blob n len : ℕ) (bytes content : List ℕ) → StartsWithLong (pos n) bytes (take len bytes) (drop len bytes) → n ≤ blob → n ≤ length (drop len bytes)
    → len ≤ length bytes → content ≡ take n (drop len bytes) → ContentStands blob bytes content (len + n)
content_stands blob n len bytes content s small enough inside is =
    let size : length content ≡ n = ap length is ∙ length-take-le n (drop len bytes) enough in
    record {
      number = take len bytes;
      rest = drop n (drop len bytes);
      spelled = rw size s.spelled;
      countable = let h = long-below n s.in_range in omega arith;
      within = omega arith;
      split = sym (take-append-drop len bytes) ∙ ap (λ (k : List ℕ). take len bytes ++ k) (sym (take-append-drop n (drop len bytes)) ∙ ap (λ (k : List ℕ). k ++ drop n (drop len bytes)) (sym is))
          ∙ sym (append_assoc (take len bytes) content (drop n (drop len bytes)));
      both = (λ i. sym (length-take-le len bytes inside) i + sym size i);
    }

-- a content that is at the front is an element
pub content_is : (is_content : List ℕ → Bool) (blob : ℕ) (bytes content : List ℕ) (len : ℕ) → ContentStands blob bytes content len → is_content content ≡ true
    → IsContent is_content blob content (take len bytes)
content_is is_content blob bytes content len s right =
    let size : len ≡ length (s.number ++ content) = s.both ∙ sym (length-append s.number content) in
    let front : take len bytes ≡ s.number ++ content = (λ i. take (size i) (s.split i)) ∙ take-append_seam (s.number ++ content) s.rest in
    record { right = right; countable = s.countable; within = s.within; spelled = (s.number, s.spelled, front) }

-- a content that is not of its kind
pub content_invalid : (is_content : List ℕ → Bool) (blob : ℕ) (bytes content : List ℕ) (len start offset : ℕ) → ContentStands blob bytes content len
    → is_content content ≡ false → offset ≡ start + (len - length content)
    → (f : ReadFault) × ContentBreaks is_content blob bytes f × (Some (invalid_text offset) ≡ Some (behind start f))
content_invalid is_content blob bytes content len start offset s wrong at =
    let starts : StartsWithLong (pos (length content)) bytes s.number (content ++ s.rest) = record {
      spelled = s.spelled;
      in_range = long_count (length content) s.countable;
      split = s.split ∙ append_assoc s.number content s.rest;
    } in
    let number : len - length content ≡ length s.number = let b = s.both in omega arith in (
      invalid_text (length s.number),
      invalid (length content) s.number (content ++ s.rest) starts s.within (omega (arith, length-append content s.rest)) (ap is_content (take-append_seam content s.rest) ∙ wrong),
      ap (λ (k : ℕ). Some (invalid_text k)) (at ∙ ap (λ (k : ℕ). start + k) number),
    )

-- a test that does not hold
pub not_utf8 : (content : List ℕ) → ¬ (IsUtf8 content) → is_utf8 content ≡ false
not_utf8 content differs = elim (is_utf8 content) as (λ b. is_utf8 content ≡ b → b ≡ false) [
  | true ↦ λ h. absurd (differs (IsUtf8-from_is_utf8 content h))
  | false ↦ λ h. refl
] refl
