-- What reading a datum from the front of bytes returns.
use Rattle.std.specs.Prelude.{◌≡◌, ◌≢◌, ℕ, ◌≤◌, true, List, ◌++◌, length, take, Result, Ok, IfOk, IsOkAnd}
use Rattle.std.specs.Result.{IfErr}
use Rattle.std.specs.Option.{IfSome}
use Rattle.avro_schema.specs.Value.{Value}
use Rattle.avro_schema.specs.Node.{Node}
use Rattle.avro_schema.specs.Fits.{LimitValues, is_within}
use Rattle.avro_schema.specs.Seen.{value_of}
use Rattle.avro_schema.specs.declared.datum.Datum.{Datum}
use Rattle.avro_cursor.specs.Encoding.{Encodes}
use Rattle.avro_cursor.specs.Fault.{ReadFault, limit_exceeded}
use Rattle.avro_cursor.specs.Breaks.{Breaks}
use Rattle.avro_cursor.specs.Seen.{read_fault, UnlessOutOfMemory, Reports}
use Rattle.avro_cursor.specs.declared.error.ReadError.{ReadError}

-- Bytes are read exactly, where `stands` says which datum an answer stands for: as the datum whose encoding within limits
-- they begin with, and that encoding's length, or by their first fault.
pub record BuildsExactly {R : Type 0} (stands : R → Value → Type 0) (nodes : List Node) (n : Node) (limits : LimitValues) (bytes : List ℕ) (result : Result (R × ℕ) ReadError) : Type 0 where
  -- what is returned stands for what is there
  pub found : IfOk result (λ r. (v : Value) × stands r.0 v × (r.1 ≤ length bytes) × Encodes nodes n v (take r.1 bytes) × (is_within limits v ≡ true))
  -- what is there is returned, whatever follows it
  pub begins : (v : Value) (front rest : List ℕ) → Encodes nodes n v front → is_within limits v ≡ true → bytes ≡ front ++ rest
      → UnlessOutOfMemory result (IsOkAnd result (λ r. stands r.0 v × (r.1 ≡ length front)))
  -- what is refused has the fault that is reported, and what has a fault is refused
  pub refused : IfErr result (λ e. IfSome (read_fault e) (Breaks nodes limits n bytes))
  pub breaks : (fault : ReadFault) → Breaks nodes limits n bytes fault → UnlessOutOfMemory result (Reports result fault)
  -- a fault that is no limit leaves no front of the bytes that encodes any datum
  pub no_front : IfErr result (λ e. IfSome (read_fault e) (λ fault.
      fault ≢ limit_exceeded → (v : Value) (front rest : List ℕ) → Encodes nodes n v front → bytes ≡ front ++ rest → ⊥))

-- The same of a result that is the datum: bytes are read as the datum whose encoding within limits they begin with, and that encoding's length, or by
-- their first fault.
pub record ReadsExactly (nodes : List Node) (n : Node) (limits : LimitValues) (bytes : List ℕ) (result : Result (Datum × ℕ) ReadError) : Type 0 where
  -- what is returned is there
  pub found : IfOk result (λ r. (r.1 ≤ length bytes) × Encodes nodes n (value_of r.0) (take r.1 bytes) × (is_within limits (value_of r.0) ≡ true))
  -- what is there is returned, whatever follows it
  pub begins : (v : Value) (front rest : List ℕ) → Encodes nodes n v front → is_within limits v ≡ true → bytes ≡ front ++ rest
      → UnlessOutOfMemory result (IsOkAnd result (λ r. (value_of r.0 ≡ v) × (r.1 ≡ length front)))
  -- what is refused has the fault that is reported, and what has a fault is refused
  pub refused : IfErr result (λ e. IfSome (read_fault e) (Breaks nodes limits n bytes))
  pub breaks : (fault : ReadFault) → Breaks nodes limits n bytes fault → UnlessOutOfMemory result (Reports result fault)
  -- a fault that is no limit leaves no front of the bytes that encodes any datum
  pub no_front : IfErr result (λ e. IfSome (read_fault e) (λ fault.
      fault ≢ limit_exceeded → (v : Value) (front rest : List ℕ) → Encodes nodes n v front → bytes ≡ front ++ rest → ⊥))

-- Bytes are walked over exactly: the length of the encoding within limits that they begin with is returned, or their
-- first fault.
pub record WalksExactly (nodes : List Node) (n : Node) (limits : LimitValues) (bytes : List ℕ) (result : Result ℕ ReadError) : Type 0 where
  -- an encoding of that length is there
  pub found : IfOk result (λ len. (v : Value) × (len ≤ length bytes) × Encodes nodes n v (take len bytes) × (is_within limits v ≡ true))
  -- the length of what is there is returned, whatever follows it
  pub begins : (v : Value) (front rest : List ℕ) → Encodes nodes n v front → is_within limits v ≡ true → bytes ≡ front ++ rest
      → UnlessOutOfMemory result (result ≡ Ok (length front))
  -- what is refused has the fault that is reported, and what has a fault is refused
  pub refused : IfErr result (λ e. IfSome (read_fault e) (Breaks nodes limits n bytes))
  pub breaks : (fault : ReadFault) → Breaks nodes limits n bytes fault → UnlessOutOfMemory result (Reports result fault)
  -- a fault that is no limit leaves no front of the bytes that encodes any datum
  pub no_front : IfErr result (λ e. IfSome (read_fault e) (λ fault.
      fault ≢ limit_exceeded → (v : Value) (front rest : List ℕ) → Encodes nodes n v front → bytes ≡ front ++ rest → ⊥))
