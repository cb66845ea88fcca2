-- The elements of encodings: at most one is at the front of bytes, it has no fault there, and there is one fault at most.
use Rattle.std.proofs.Common.{◌≡◌, ℕ, ◌^◌, ◌<◌, ◌≤◌, ℤ, pos, negsuc, Bool, true, false, cond, List, [], ◌∷◌, ◌++◌, length, take, Ok, Err, Option, Some, None, refl, sym, ap, ◌∙◌, subst, arith, rules, tests, nat_lt, if◌then◌else◌, inl, inr, length-append, append_assoc}
use Rattle.std.proofs.lemmas.Bool.{and_parts}
use Rattle.std.specs.Str.{is_utf8}
use Rattle.std.proofs.Math.Seq.{take-append_seam}
use Rattle.avro_zigzag.proofs.public.Spelling.{one_spelling_lem}
use Rattle.avro_zigzag.proofs.public.Faults.{long-excludes_fault, int-excludes_fault, one_fault as one_number_fault}
use Rattle.avro_schema.specs.Fits.{is_long, is_count, is_text}
use Rattle.avro_schema.proofs.public.FitsParts.{is_count-below}
use Rattle.avro_cursor.specs.Encoding.{SpellsBytes}
use Rattle.avro_cursor.proofs.public.Fronts.{same_front, same_behind}
use Rattle.avro_cursor.specs.Fault.{ReadFault, end_of_input, invalid_text, invalid_length, limit_exceeded, behind}
use Rattle.avro_cursor.specs.Breaks.{number_fault, IntBreaks, LongBreaks, BooleanBreaks, FixedBreaks, StartsWithLong, ContentBreaks, length_breaks, negative, too_long, cut, invalid, is_index, IndexBreaks, number_breaks, unknown}
use Rattle.avro_cursor.specs.Seen.{read_fault}
use Rattle.avro_cursor.specs.CursorValue.{CursorValue, Passes}
use Rattle.avro_cursor.specs.Elements.{IsBoolean, IsInt, IsLong, IsContent, IsFixed, IsIndex, IsString, ReadsElement}
use Rattle.avro_cursor.specs.declared.error.ReadError.{ReadError}
use Rattle.avro_cursor.proofs.public.Ranges.{is_count-from_below}

pub record IsPart {A : Type 0} (IsElement : A → List ℕ → Type 0) (ElementBreaks : List ℕ → ReadFault → Type 0) : Type 0 where
  pub one : (v w : A) (a b x y : List ℕ) → IsElement v a → IsElement w b → a ++ x ≡ b ++ y → (a ≡ b) × (v ≡ w)
  pub excludes : (v : A) (front rest : List ℕ) (f : ReadFault) → IsElement v front → ElementBreaks (front ++ rest) f → ⊥
  pub one_fault : (bytes : List ℕ) (f g : ReadFault) → ElementBreaks bytes f → ElementBreaks bytes g → f ≡ g

module _ {A R : Type 0} (seen : R → A) (IsElement : A → List ℕ → Type 0) (ElementBreaks : List ℕ → ReadFault → Type 0) (part : IsPart IsElement ElementBreaks) (before after : CursorValue) where
  -- an element that is at the front is returned
  pub element_found : (r : R) (front : List ℕ) → IsElement (seen r) front → Passes before front after → ReadsElement seen IsElement ElementBreaks before after (Ok r)
  element_found r front is passes = record {
    found = (front, is, passes);
    stands = λ v other rest other_is split.
        let same = part.one v (seen r) other front rest after.bytes other_is is (sym split ∙ passes.split) in
        (sym same.1, subst (λ (bytes : List ℕ). Passes before bytes after) (sym same.0) passes);
    refused = tt;
    breaks = λ f b. part.excludes (seen r) front after.bytes f is (subst (λ (bytes : List ℕ). ElementBreaks bytes f) passes.split b);
    unchanged = tt;
  }

  -- a fault at the front is reported
  pub element_refused : (e : ReadError) (f : ReadFault) → ElementBreaks before.bytes f → read_fault e ≡ Some (behind before.offset f) → after ≡ before
      → ReadsElement seen IsElement ElementBreaks before after (Err e)
  element_refused e f b reports same = record {
    found = tt;
    stands = λ v front rest is split. absurd (part.excludes v front rest f is (subst (λ (bytes : List ℕ). ElementBreaks bytes f) split b));
    refused = (f, b, reports);
    breaks = λ g other. reports ∙ ap (λ (h : ReadFault). Some (behind before.offset h)) (part.one_fault before.bytes f g b other);
    unchanged = same;
  }

pub int_part : IsPart IsInt IntBreaks
int_part = record {
  one = λ v w a b x y p q e. one_spelling_lem v w a b x y p.1 q.1 e;
  excludes = λ v front rest f p b. int-excludes_fault v (front ++ rest) front rest b.0 p.0 p.1 refl b.1;
  one_fault = λ bytes f g b d. b.2 ∙ ap number_fault (one_number_fault 5 15 bytes b.0 d.0 b.1 d.1) ∙ sym d.2;
}

pub long_part : IsPart IsLong LongBreaks
long_part = record {
  one = λ v w a b x y p q e. one_spelling_lem v w a b x y p.1 q.1 e;
  excludes = λ v front rest f p b. long-excludes_fault v (front ++ rest) front rest b.0 p.0 p.1 refl b.1;
  one_fault = λ bytes f g b d. b.2 ∙ ap number_fault (one_number_fault 10 1 bytes b.0 d.0 b.1 d.1) ∙ sym d.2;
}

-- the byte of a boolean
abbrev pub boolean_byte : Bool → ℕ
boolean_byte b = if b then 1 else 0

boolean_byte-same : (b d : Bool) → boolean_byte b ≡ boolean_byte d → b ≡ d
boolean_byte-same true true h = refl
boolean_byte-same false false h = refl
boolean_byte-same true false h = absurd (omega arith)
boolean_byte-same false true h = absurd (omega arith)

boolean_byte-small : (b : Bool) → boolean_byte b ≤ 1
boolean_byte-small true = omega arith
boolean_byte-small false = omega arith

boolean-one : (v w : Bool) (a b x y : List ℕ) → IsBoolean v a → IsBoolean w b → a ++ x ≡ b ++ y → (a ≡ b) × (v ≡ w)
boolean-one v w a b x y p q e =
    let same = same_front a b x y (ap length p ∙ sym (ap length q)) e in
    let bytes : boolean_byte v ∷ [] ≡ boolean_byte w ∷ [] = sym p ∙ same.0 ∙ q in
    (same.0, boolean_byte-same v w cc)

boolean-excludes : (v : Bool) (front rest : List ℕ) (f : ReadFault) → IsBoolean v front → BooleanBreaks (front ++ rest) f → ⊥
boolean-excludes v front rest f p b =
    let h : BooleanBreaks (boolean_byte v ∷ rest) f = subst (λ (bytes : List ℕ). BooleanBreaks (bytes ++ rest) f) p b in
    let high = h.0 in
    omega (arith, boolean_byte-small v)

boolean-one_fault : (bytes : List ℕ) (f g : ReadFault) → BooleanBreaks bytes f → BooleanBreaks bytes g → f ≡ g
boolean-one_fault [] f g b d = b ∙ sym d
boolean-one_fault (x ∷ bytes) f g b d = b.1 ∙ sym d.1

pub boolean_part : IsPart IsBoolean BooleanBreaks
boolean_part = record { one = boolean-one; excludes = boolean-excludes; one_fault = boolean-one_fault }

fixed-one_fault : (count blob : ℕ) (bytes : List ℕ) (f g : ReadFault) → FixedBreaks count blob bytes f → FixedBreaks count blob bytes g → f ≡ g
fixed-one_fault count blob bytes f g (inl b) (inl d) = b.1 ∙ sym d.1
fixed-one_fault count blob bytes f g (inl b) (inr d) = let x = b.0 in let y = d.0 in absurd (omega arith)
fixed-one_fault count blob bytes f g (inr b) (inl d) = let x = b.0 in let y = d.0 in absurd (omega arith)
fixed-one_fault count blob bytes f g (inr b) (inr d) = b.2 ∙ sym d.2

fixed-excludes : (count blob : ℕ) (v front rest : List ℕ) (f : ReadFault) → IsFixed count blob v front → FixedBreaks count blob (front ++ rest) f → ⊥
fixed-excludes count blob v front rest f p (inl b) = let x = b.0 in let y = p.2 in omega arith
fixed-excludes count blob v front rest f p (inr b) =
    let x = b.1 in let y = p.1 in let z = ap length p.0 in omega (arith, length-append front rest)

pub fixed_part : (count blob : ℕ) → IsPart (IsFixed count blob) (FixedBreaks count blob)
fixed_part count blob = record {
  one = λ v w a b x y p q e.
      let same = same_front a b x y (ap length p.0 ∙ p.1 ∙ sym (ap length q.0 ∙ q.1)) e in
      (same.0, sym p.0 ∙ same.0 ∙ q.0);
  excludes = fixed-excludes count blob;
  one_fault = fixed-one_fault count blob;
}

-- a number below 2^63 is a long
pub long_count : (n : ℕ) → n < 2 ^ 63 → is_long (pos n) ≡ true
long_count n h = search (rules, tests)

-- the long at the front is one
pub head_same : (v w : ℤ) (bytes n m r s : List ℕ) → StartsWithLong v bytes n r → StartsWithLong w bytes m s → (n ≡ m) × (v ≡ w) × (r ≡ s)
head_same v w bytes n m r s a b =
    let joined : n ++ r ≡ m ++ s = sym a.split ∙ b.split in
    let same = one_spelling_lem v w n m r s a.spelled b.spelled joined in
    (same.0, same.1, same_behind n m r s same.0 joined)

pub no_long_fault : (v : ℤ) (bytes number rest : List ℕ) (f : ReadFault) → StartsWithLong v bytes number rest → LongBreaks bytes f → ⊥
no_long_fault v bytes number rest f s b = long-excludes_fault v bytes number rest b.0 s.in_range s.spelled s.split b.1

module _ (is_content : List ℕ → Bool) (blob : ℕ) where
  -- the fault of a content after its length
  abbrev pub content_fault : ℤ → List ℕ → List ℕ → Option ReadFault
  content_fault (negsuc n) number rest = Some (invalid_length 0)
  content_fault (pos n) number rest =
      cond (nat_lt blob n) (Some limit_exceeded)
      (cond (nat_lt (length rest) n) (Some (end_of_input (length number)))
      (cond (is_content (take n rest)) None (Some (invalid_text (length number)))))

  content_fault-moved : (v w : ℤ) (bytes n m r s : List ℕ) → StartsWithLong v bytes n r → StartsWithLong w bytes m s → content_fault v n r ≡ content_fault w m s
  content_fault-moved v w bytes n m r s a b = let same = head_same v w bytes n m r s a b in cc

  fault-too_long : (n : ℕ) (number rest : List ℕ) → blob < n → content_fault (pos n) number rest ≡ Some limit_exceeded
  fault-too_long n number rest h = let t : nat_lt blob n ≡ true = search (rules, tests) in rw t refl

  fault-cut : (n : ℕ) (number rest : List ℕ) → n ≤ blob → length rest < n → content_fault (pos n) number rest ≡ Some (end_of_input (length number))
  fault-cut n number rest h l =
      let t : nat_lt blob n ≡ false = search (rules, tests) in
      let u : nat_lt (length rest) n ≡ true = search (rules, tests) in
      rw (t, u) refl

  fault-content : (n : ℕ) (number rest : List ℕ) → n ≤ blob → n ≤ length rest
      → content_fault (pos n) number rest ≡ cond (is_content (take n rest)) None (Some (invalid_text (length number)))
  fault-content n number rest h l =
      let t : nat_lt blob n ≡ false = search (rules, tests) in
      let u : nat_lt (length rest) n ≡ false = search (rules, tests) in
      rw (t, u) refl

  -- after a length the content has that fault
  pub content_fault-from_breaks : (v : ℤ) (bytes number rest : List ℕ) (f : ReadFault) → StartsWithLong v bytes number rest → ContentBreaks is_content blob bytes f
      → content_fault v number rest ≡ Some f
  content_fault-from_breaks v bytes number rest f s (length_breaks b) = absurd (no_long_fault v bytes number rest f s b)
  content_fault-from_breaks v bytes number rest f s (negative n m r t) = content_fault-moved v (negsuc n) bytes number m rest r s t
  content_fault-from_breaks v bytes number rest f s (too_long n m r t h) = content_fault-moved v (pos n) bytes number m rest r s t ∙ fault-too_long n m r h
  content_fault-from_breaks v bytes number rest f s (cut n m r t h l) = content_fault-moved v (pos n) bytes number m rest r s t ∙ fault-cut n m r h l
  content_fault-from_breaks v bytes number rest f s (invalid n m r t h l e) =
      content_fault-moved v (pos n) bytes number m rest r s t ∙ fault-content n m r h l ∙ ap (λ (b : Bool). cond b None (Some (invalid_text (length m)))) e

  one_behind : (v : ℤ) (bytes number rest : List ℕ) (f g : ReadFault) → StartsWithLong v bytes number rest
      → ContentBreaks is_content blob bytes f → ContentBreaks is_content blob bytes g → f ≡ g
  one_behind v bytes number rest f g s b d =
      let x = content_fault-from_breaks v bytes number rest f s b in
      let y = content_fault-from_breaks v bytes number rest g s d in cc

  length_first : (bytes : List ℕ) (f g : ReadFault) → LongBreaks bytes f → ContentBreaks is_content blob bytes g → f ≡ g
  length_first bytes f g b (length_breaks d) = long_part.one_fault bytes f g b d
  length_first bytes f g b (negative n m r t) = absurd (no_long_fault (negsuc n) bytes m r f t b)
  length_first bytes f g b (too_long n m r t h) = absurd (no_long_fault (pos n) bytes m r f t b)
  length_first bytes f g b (cut n m r t h l) = absurd (no_long_fault (pos n) bytes m r f t b)
  length_first bytes f g b (invalid n m r t h l e) = absurd (no_long_fault (pos n) bytes m r f t b)

  content-one_fault : (bytes : List ℕ) (f g : ReadFault) → ContentBreaks is_content blob bytes f → ContentBreaks is_content blob bytes g → f ≡ g
  content-one_fault bytes f g (length_breaks b) d = length_first bytes f g b d
  content-one_fault bytes f g (negative n m r t) d = one_behind (negsuc n) bytes m r f g t (negative n m r t) d
  content-one_fault bytes f g (too_long n m r t h) d = one_behind (pos n) bytes m r f g t (too_long n m r t h) d
  content-one_fault bytes f g (cut n m r t h l) d = one_behind (pos n) bytes m r f g t (cut n m r t h l) d
  content-one_fault bytes f g (invalid n m r t h l e) d = one_behind (pos n) bytes m r f g t (invalid n m r t h l e) d

  -- the length of a content
  content_head : (content front rest : List ℕ) → (p : IsContent is_content blob content front)
      → StartsWithLong (pos (length content)) (front ++ rest) p.spelled.0 (content ++ rest)
  content_head content front rest p = record {
    spelled = p.spelled.1;
    in_range = long_count (length content) p.countable;
    split = ap (λ (k : List ℕ). k ++ rest) p.spelled.2 ∙ append_assoc p.spelled.0 content rest;
  }

  content-excludes : (content front rest : List ℕ) (f : ReadFault) → IsContent is_content blob content front → ContentBreaks is_content blob (front ++ rest) f → ⊥
  content-excludes content front rest f p b =
      let number = p.spelled.0 in
      let x = content_fault-from_breaks (pos (length content)) (front ++ rest) number (content ++ rest) f (content_head content front rest p) b in
      let y = fault-content (length content) number (content ++ rest) p.within (omega (arith, length-append content rest)) in
      let z : is_content (take (length content) (content ++ rest)) ≡ true = ap is_content (take-append_seam content rest) ∙ p.right in
      let w : cond (is_content (take (length content) (content ++ rest))) None (Some (invalid_text (length number))) ≡ None =
      ap (λ (t : Bool). cond t None (Some (invalid_text (length number)))) z in
      let bad : None ≡ Some f = sym w ∙ sym y ∙ x in cc

  content-one : (v w a b x y : List ℕ) → IsContent is_content blob v a → IsContent is_content blob w b → a ++ x ≡ b ++ y → (a ≡ b) × (v ≡ w)
  content-one v w a b x y p q e =
      let left = content_head v a x p in
      let right = content_head w b y q in
      let moved : StartsWithLong (pos (length w)) (a ++ x) q.spelled.0 (w ++ y) = subst (λ (k : List ℕ). StartsWithLong (pos (length w)) k q.spelled.0 (w ++ y)) (sym e) right in
      let same = head_same (pos (length v)) (pos (length w)) (a ++ x) p.spelled.0 q.spelled.0 (v ++ x) (w ++ y) left moved in
      let lengths : length v ≡ length w = let number = same.1 in cc in
      let content = same_front v w x y lengths same.2 in
      (p.spelled.2 ∙ (λ i. same.0 i ++ content.0 i) ∙ sym q.spelled.2, content.0)

  pub content_part : IsPart (IsContent is_content blob) (ContentBreaks is_content blob)
  content_part = record { one = content-one; excludes = content-excludes; one_fault = content-one_fault }

-- a number that is no index breaks so
index-first : (choices : ℕ) (bytes : List ℕ) (f g : ReadFault) → IntBreaks bytes f → IndexBreaks choices bytes g → f ≡ g
index-first choices bytes f g b (number_breaks d) = int_part.one_fault bytes f g b d
index-first choices bytes f g b (unknown v number rest s r split h) = absurd (int-excludes_fault v bytes number rest b.0 r s split b.1)

index-one_fault : (choices : ℕ) (bytes : List ℕ) (f g : ReadFault) → IndexBreaks choices bytes f → IndexBreaks choices bytes g → f ≡ g
index-one_fault choices bytes f g (number_breaks b) d = index-first choices bytes f g b d
index-one_fault choices bytes f g (unknown v number rest s r split h) (number_breaks d) = absurd (int-excludes_fault v bytes number rest d.0 r s split d.1)
index-one_fault choices bytes f g (unknown v number rest s r split h) (unknown w other more t q joined i) = refl

index-excludes : (choices n : ℕ) (front rest : List ℕ) (f : ReadFault) → IsIndex choices n front → IndexBreaks choices (front ++ rest) f → ⊥
index-excludes choices n front rest f p (number_breaks b) = int_part.excludes (pos n) front rest f p.1 b
index-excludes choices n front rest f p (unknown v number more s r split h) =
    let same = one_spelling_lem (pos n) v front number rest more p.1.1 s split in
    let small : nat_lt n choices ≡ true = let k = p.0 in search (rules, tests) in
    let bad : is_index choices (pos n) ≡ false = ap (is_index choices) same.1 ∙ h in
    let clash : true ≡ false = sym small ∙ bad in cc

pub index_part : (choices : ℕ) → IsPart (IsIndex choices) (IndexBreaks choices)
index_part choices = record {
  one = λ v w a b x y p q e. let same = one_spelling_lem (pos v) (pos w) a b x y p.1.1 q.1.1 e in let number = same.1 in (same.0, cc);
  excludes = index-excludes choices;
  one_fault = index-one_fault choices;
}

-- texts of data that fit, after their lengths, are elements, and the way back
pub string_is : (blob : ℕ) (content bytes : List ℕ) → SpellsBytes content bytes → is_text content ≡ true → length content ≤ blob → IsString blob content bytes
string_is blob content bytes spelled text within =
    let parts = and_parts (is_count (length content)) (is_utf8 content) text in
    record { right = parts.1; countable = is_count-below (length content) parts.0; within = within; spelled = spelled }

pub is_text-from_string : (blob : ℕ) (content bytes : List ℕ) → IsString blob content bytes → is_text content ≡ true
is_text-from_string blob content bytes p = rw (is_count-from_below (length content) p.countable, p.right) refl
