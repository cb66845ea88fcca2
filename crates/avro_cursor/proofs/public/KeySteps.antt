-- What reading a key returns.
use Rattle.std.proofs.Common.{◌≡◌, ℕ, ◌≤◌, true, false, List, ◌++◌, length, take, Result, Ok, Err, Some, refl, sym, ap, ◌∙◌, subst, bytes_eq, length-append}
use Rattle.std.proofs.Math.Seq.{take-append_seam}
use Rattle.std.proofs.lemmas.Bool.{false≢true}
use Rattle.std.specs.List.{list_any}
use Rattle.std.specs.Str.{is_utf8}
use Rattle.std.specs.FinSet as set
use Rattle.avro_schema.specs.Fits.{is_text}
use Rattle.avro_cursor.specs.Encoding.{SpellsBytes}
use Rattle.avro_cursor.specs.Fault.{ReadFault, duplicate_key, behind}
use Rattle.avro_cursor.specs.Breaks.{StringBreaks, KeyBreaks, string_breaks, twice}
use Rattle.avro_cursor.specs.Seen.{read_fault, UnlessOutOfMemory}
use Rattle.avro_cursor.specs.CursorValue.{CursorValue, Passes}
use Rattle.avro_cursor.specs.KeySet.{KeySet, key_set}
use Rattle.avro_cursor.specs.Elements.{IsString, IsKey, ReadsKey, ContentStands}
use Rattle.avro_cursor.specs.declared.error.ReadError.{ReadError}
use Rattle.avro_cursor.proofs.KeySets.{contains-key_set, key_set-push, key_set-again}
use Rattle.avro_cursor.proofs.public.ElementLaws.{string_is, is_text-from_string, IsPart, content_part}
use Rattle.avro_cursor.proofs.CursorSteps.{content_is, from_front}

abbrev pub as_error : {A : Type 0} → ReadError → Result A ReadError
as_error e = Err e

-- an error that reports a fault does not say that memory ran out
pub unless_reported : (A : Type 0) (error : ReadError) (f : ReadFault) (P : Type 0) → read_fault error ≡ Some f → P → UnlessOutOfMemory (as_error {A = A} error) P
unless_reported A ReadError.OutOfMemory f P h p = tt
unless_reported A _ f P h p = p

module _ (keys : List (List ℕ)) (blob : ℕ) where
  strings : IsPart (IsString blob) (StringBreaks blob)
  strings = content_part is_utf8 blob

  key-excludes : (key front rest : List ℕ) (f : ReadFault) → IsKey keys blob key front → KeyBreaks keys blob (front ++ rest) f → ⊥
  key-excludes key front rest f p (string_breaks b) = strings.excludes key front rest f p.0 b
  key-excludes key front rest f p (twice other its_front its_rest spelled text within split again) =
      let same = strings.one key other front its_front rest its_rest p.0 (string_is blob other its_front spelled text within) split in
      false≢true (sym p.1 ∙ ap (λ (k : List ℕ). list_any (bytes_eq k) keys) same.1 ∙ again)

  text_first : (bytes : List ℕ) (f : ReadFault) (key front rest : List ℕ) → StringBreaks blob bytes f → SpellsBytes key front → is_text key ≡ true → length key ≤ blob → bytes ≡ front ++ rest → ⊥
  text_first bytes f key front rest b spelled text within split =
      strings.excludes key front rest f (string_is blob key front spelled text within) (subst (λ (k : List ℕ). StringBreaks blob k f) split b)

  key-one_fault : (bytes : List ℕ) (f g : ReadFault) → KeyBreaks keys blob bytes f → KeyBreaks keys blob bytes g → f ≡ g
  key-one_fault bytes f g (string_breaks b) (string_breaks d) = strings.one_fault bytes f g b d
  key-one_fault bytes f g (string_breaks b) (twice key front rest spelled text within split again) = absurd (text_first bytes f key front rest b spelled text within split)
  key-one_fault bytes f g (twice key front rest spelled text within split again) (string_breaks b) = absurd (text_first bytes g key front rest b spelled text within split)
  key-one_fault bytes f g (twice key front rest spelled text within split again) (twice other its_front its_rest its_spelling its_text its_within its_split too) = refl

  pub key_part : IsPart (IsKey keys blob) (KeyBreaks keys blob)
  key_part = record {
    one = λ v w a b x y p q e. strings.one v w a b x y p.0 q.0 e;
    excludes = key-excludes;
    one_fault = key-one_fault;
  }

module _ {R : Type 0} (seen : R → List ℕ) (keys : List (List ℕ)) (before after : CursorValue) (set_before set_after : KeySet) (are : set_before ≡ key_set keys) where
  has : (key : List ℕ) → set.contains set_before key ≡ list_any (bytes_eq key) keys
  has key = ap (λ (s : KeySet). set.contains s key) are ∙ contains-key_set keys key

  -- a new key is read
  pub key_found : (r : R) (len : ℕ) → ContentStands before.blob before.bytes (seen r) len → is_utf8 (seen r) ≡ true
      → set.contains set_before (seen r) ≡ false → set_after ≡ set.insert set_before (seen r) → Passes before (take len before.bytes) after
      → ReadsKey seen keys before after set_before set_after (Ok r)
  key_found r len stands valid new added passes =
      let is : IsKey keys before.blob (seen r) (take len before.bytes) = (content_is is_utf8 before.blob before.bytes (seen r) len stands valid, sym (has (seen r)) ∙ new) in
      record {
        found = (take len before.bytes, is, passes);
        added = added ∙ ap (λ (s : KeySet). set.insert s (seen r)) are ∙ sym (key_set-push keys (seen r));
        stands = λ key front rest other split.
            let same = (key_part keys before.blob).one key (seen r) front (take len before.bytes) rest after.bytes other is (sym split ∙ passes.split) in
            (sym same.1, subst (λ (bytes : List ℕ). Passes before bytes after) (sym same.0) passes);
        refused = tt;
        breaks = λ f b. (key_part keys before.blob).excludes (seen r) (take len before.bytes) after.bytes f is
            (subst (λ (bytes : List ℕ). KeyBreaks keys before.blob bytes f) passes.split b);
        unchanged = tt;
      }

  -- what is refused by a fault
  pub key_refused : (e : ReadError) (f : ReadFault) → KeyBreaks keys before.blob before.bytes f → read_fault e ≡ Some (behind before.offset f)
      → after ≡ before → set_after ≡ set_before → ReadsKey seen keys before after set_before set_after (Err e)
  key_refused e f b reports same same_set = record {
    found = tt;
    added = tt;
    stands = λ key front rest is split. absurd ((key_part keys before.blob).excludes key front rest f is (subst (λ (bytes : List ℕ). KeyBreaks keys before.blob bytes f) split b));
    refused = rw reports (f, b, refl);
    breaks = λ g other. unless_reported R e (behind before.offset f) (read_fault e ≡ Some (behind before.offset g)) reports
        (reports ∙ ap (λ (h : ReadFault). Some (behind before.offset h)) ((key_part keys before.blob).one_fault before.bytes f g b other));
    unchanged = (same, same_set);
  }

  -- a key of before
  pub key_twice : (key : List ℕ) (len offset : ℕ) → ContentStands before.blob before.bytes key len → is_utf8 key ≡ true → set.contains set_before key ≡ true
      → set_after ≡ set.insert set_before key → offset ≡ before.offset → after ≡ before → ReadsKey seen keys before after set_before set_after (Err (ReadError.DuplicateKey offset))
  key_twice key len offset stands valid old added at same =
      let is = content_is is_utf8 before.blob before.bytes key len stands valid in
      key_refused (ReadError.DuplicateKey offset) (duplicate_key 0)
      (twice key (take len before.bytes) stands.rest is.spelled (is_text-from_string before.blob key (take len before.bytes) is) stands.within (split_is is) (sym (has key) ∙ old))
      (from_front duplicate_key before.offset offset at) same (added ∙ key_set-again set_before key old)
    where
      split_is : (p : IsString before.blob key (take len before.bytes)) → before.bytes ≡ take len before.bytes ++ stands.rest
      split_is p =
          let size : len ≡ length (stands.number ++ key) = stands.both ∙ sym (length-append stands.number key) in
          let front : take len before.bytes ≡ stands.number ++ key = (λ i. take (size i) (stands.split i)) ∙ take-append_seam (stands.number ++ key) stands.rest in
          stands.split ∙ ap (λ (k : List ℕ). k ++ stands.rest) (sym front)
