-- The elements of encodings, the bytes of each, and what reading one returns (Avro 1.11, "Binary Encoding").
use Rattle.std.specs.Prelude.{◌≡◌, ℕ, ◌+◌, ◌^◌, ◌<◌, ◌≤◌, ℤ, pos, Bool, true, false, List, [], ◌∷◌, ◌++◌, length, bytes_eq, if◌then◌else◌, Result, IfOk, IsOkAnd, OnErr, Some}
use Rattle.std.specs.Result.{IfErr}
use Rattle.std.specs.Option.{IfSome}
use Rattle.std.specs.List.{list_any}
use Rattle.std.specs.Str.{is_utf8}
use Rattle.avro_zigzag.specs.Number.{SpellsInt, SpellsLong}
use Rattle.avro_schema.specs.Fits.{is_int, is_long}
use Rattle.avro_cursor.specs.Encoding.{SpellsBytes}
use Rattle.avro_cursor.specs.Fault.{ReadFault, behind}
use Rattle.avro_cursor.specs.Breaks.{KeyBreaks}
use Rattle.avro_cursor.specs.Seen.{read_fault, Reports, UnlessOutOfMemory}
use Rattle.avro_cursor.specs.CursorValue.{CursorValue, Passes}
use Rattle.avro_cursor.specs.KeySet.{KeySet, key_set}
use Rattle.avro_cursor.specs.declared.error.ReadError.{ReadError}

-- one byte, 0 or 1, is the boolean
abbrev pub IsBoolean : Bool → List ℕ → Type 0
IsBoolean b bytes = bytes ≡ (if b then 1 else 0) ∷ []

-- bytes spell an int in range
abbrev pub IsInt : ℤ → List ℕ → Type 0
IsInt v bytes = (is_int v ≡ true) × SpellsInt v bytes

-- bytes spell a long in range
abbrev pub IsLong : ℤ → List ℕ → Type 0
IsLong v bytes = (is_long v ≡ true) × SpellsLong v bytes

-- content of some kind, of a length within a limit, after that length
pub record IsContent (is_content : List ℕ → Bool) (blob : ℕ) (content bytes : List ℕ) : Type 0 where
  pub right : is_content content ≡ true
  pub countable : length content < 2 ^ 63
  pub within : length content ≤ blob
  pub spelled : SpellsBytes content bytes

-- bytes are a length within a limit and that many bytes
abbrev pub IsBytes : ℕ → List ℕ → List ℕ → Type 0
IsBytes = IsContent (λ content. true)

-- bytes are a length within a limit and that many bytes of UTF-8
abbrev pub IsString : ℕ → List ℕ → List ℕ → Type 0
IsString = IsContent is_utf8

-- a fixed of a size, within a limit
abbrev pub IsFixed : ℕ → ℕ → List ℕ → List ℕ → Type 0
IsFixed count blob content bytes = (bytes ≡ content) × (length content ≡ count) × (count ≤ blob)

-- the index of a branch or a symbol, below their count
abbrev pub IsIndex : ℕ → ℕ → List ℕ → Type 0
IsIndex choices n bytes = (n < choices) × IsInt (pos n) bytes

-- a key of a map, after others
abbrev pub IsKey : List (List ℕ) → ℕ → List ℕ → List ℕ → Type 0
IsKey keys blob key bytes = IsString blob key bytes × (list_any (bytes_eq key) keys ≡ false)

-- what is returned is an element at the front, and the cursor is after it
abbrev pub Finds : {A R : Type 0} → (R → A) → (A → List ℕ → Type 0) → CursorValue → CursorValue → R → Type 0
Finds seen IsElement before after r = (front : List ℕ) × IsElement (seen r) front × Passes before front after

-- the error reports the fault of the element that should be at the front
abbrev pub Refuses : (List ℕ → ReadFault → Type 0) → CursorValue → ReadError → Type 0
Refuses ElementBreaks before e = (f : ReadFault) × ElementBreaks before.bytes f × (read_fault e ≡ Some (behind before.offset f))

-- A call that reads an element: `seen` is what contracts see of a result. It returns exactly an element that is at
-- the front, and refuses exactly by the fault of one; a refusal leaves the cursor as it was.
pub record ReadsElement {A R : Type 0} (seen : R → A) (IsElement : A → List ℕ → Type 0) (ElementBreaks : List ℕ → ReadFault → Type 0) (before after : CursorValue) (result : Result R ReadError) : Type 0 where
  pub found : IfOk result (Finds seen IsElement before after)
  pub stands : (v : A) (front rest : List ℕ) → IsElement v front → before.bytes ≡ front ++ rest
      → IsOkAnd result (λ r. seen r ≡ v) × Passes before front after
  pub refused : IfErr result (Refuses ElementBreaks before)
  pub breaks : (f : ReadFault) → ElementBreaks before.bytes f → Reports result (behind before.offset f)
  pub unchanged : OnErr result (after ≡ before)

-- a content is at the front after its length, and the two have a number of bytes together
pub record ContentStands (blob : ℕ) (bytes content : List ℕ) (len : ℕ) : Type 0 where
  pub number : List ℕ
  pub rest : List ℕ
  pub spelled : SpellsLong (pos (length content)) number
  pub countable : length content < 2 ^ 63
  pub within : length content ≤ blob
  pub split : bytes ≡ number ++ content ++ rest
  pub both : len ≡ length number + length content

-- A call that reads a key after others, which are a set. It may run out of memory; the rest is as for an element, and a
-- key that is read is one of the set.
pub record ReadsKey {R : Type 0} (seen : R → List ℕ) (keys : List (List ℕ)) (before after : CursorValue) (set_before set_after : KeySet) (result : Result R ReadError) : Type 0 where
  pub found : IfOk result (Finds seen (IsKey keys before.blob) before after)
  pub added : IfOk result (λ r. set_after ≡ key_set (keys ++ seen r ∷ []))
  pub stands : (key front rest : List ℕ) → IsKey keys before.blob key front → before.bytes ≡ front ++ rest
      → UnlessOutOfMemory result (IsOkAnd result (λ r. seen r ≡ key) × Passes before front after)
  pub refused : IfErr result (λ e. IfSome (read_fault e) (λ fault.
      (f : ReadFault) × KeyBreaks keys before.blob before.bytes f × (fault ≡ behind before.offset f)))
  pub breaks : (f : ReadFault) → KeyBreaks keys before.blob before.bytes f → UnlessOutOfMemory result (Reports result (behind before.offset f))
  pub unchanged : OnErr result ((after ≡ before) × (set_after ≡ set_before))
