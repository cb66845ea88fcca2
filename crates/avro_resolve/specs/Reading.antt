-- What reading with resolution answers.
use Rattle.std.specs.Prelude.{◌≡◌, ℕ, ◌≤◌, true, List, ◌++◌, length, take, Result, Ok, Err, IfOk, Some}
use Rattle.std.specs.Option.{IfSome}
use Rattle.avro_schema.specs.Value.{Value}
use Rattle.avro_schema.specs.Node.{Node, root_of}
use Rattle.avro_schema.specs.Fits.{LimitValues, is_within}
use Rattle.avro_schema.specs.Seen.{value_of}
use Rattle.avro_schema.specs.declared.datum.Datum.{Datum}
use Rattle.avro_cursor.specs.Encoding.{Encodes}
use Rattle.avro_cursor.specs.Fault.{ReadFault}
use Rattle.avro_cursor.specs.Breaks.{Breaks}
use Rattle.avro_cursor.specs.Seen.{read_fault}
use Rattle.avro_compare.specs.Resolve.{Resolved, resolve_root}
use Rattle.avro_compare.specs.Seen.{fault_of}
use Rattle.avro_resolve.specs.Seen.{UnlessOutOfMemory, AnswersAfter, BuiltAfter, IfUnread, IfUnresolved, IsUnread}
use Rattle.avro_resolve.specs.declared.error.ReadResolveError.{ReadResolveError}

-- An encoding of a writer's datum within limits is at the start, in `len` bytes, and resolution gives this for the
-- datum.
pub record ReadsAs (writer reader : List Node) (limits : LimitValues) (bytes : List ℕ) (len : ℕ) (resolved : Resolved) : Type 0 where
  pub datum : Value
  pub in_bytes : len ≤ length bytes
  pub encoded : Encodes writer (root_of writer) datum (take len bytes)
  pub within : is_within limits datum ≡ true
  pub resolves : resolve_root writer reader datum ≡ resolved

-- Bytes are read exactly as what resolution gives for the writer's datum at their start, where `stands` says which
-- datum an answer stands for, or refused by their first fault.
pub record BuildsResolved {O : Type 0} (stands : O → Value → Type 0) (writer reader : List Node) (limits : LimitValues) (bytes : List ℕ) (result : Result (O × ℕ) ReadResolveError) : Type 0 where
  -- what is answered stands for the datum that stands there, resolved
  pub found : IfOk result (λ r. (u : Value) × stands r.0 u × ReadsAs writer reader limits bytes r.1 (Ok u))
  -- a fault of resolution is that of the datum that stands there
  pub faulty : IfUnresolved result (λ f. (len : ℕ) × ReadsAs writer reader limits bytes len (Err (fault_of f)))
  -- what stands there is answered, whatever follows it
  pub begins : (v : Value) (front rest : List ℕ) → Encodes writer (root_of writer) v front → is_within limits v ≡ true → bytes ≡ front ++ rest
      → UnlessOutOfMemory result (BuiltAfter stands result (resolve_root writer reader v) (length front))
  -- what is refused has the fault that is reported, and what has a fault is refused
  pub refused : IfUnread result (λ e. IfSome (read_fault e) (Breaks writer limits (root_of writer) bytes))
  pub breaks : (fault : ReadFault) → Breaks writer limits (root_of writer) bytes fault
      → UnlessOutOfMemory result (IsUnread result (λ e. read_fault e ≡ Some fault))

-- The same of a result that is the datum.
pub record ReadsResolved (writer reader : List Node) (limits : LimitValues) (bytes : List ℕ) (result : Result (Datum × ℕ) ReadResolveError) : Type 0 where
  -- what is answered is the datum that stands there, resolved
  pub found : IfOk result (λ r. ReadsAs writer reader limits bytes r.1 (Ok (value_of r.0)))
  -- a fault of resolution is that of the datum that stands there
  pub faulty : IfUnresolved result (λ f. (len : ℕ) × ReadsAs writer reader limits bytes len (Err (fault_of f)))
  -- what stands there is answered, whatever follows it
  pub begins : (v : Value) (front rest : List ℕ) → Encodes writer (root_of writer) v front → is_within limits v ≡ true → bytes ≡ front ++ rest
      → UnlessOutOfMemory result (AnswersAfter result (resolve_root writer reader v) (length front))
  -- what is refused has the fault that is reported, and what has a fault is refused
  pub refused : IfUnread result (λ e. IfSome (read_fault e) (Breaks writer limits (root_of writer) bytes))
  pub breaks : (fault : ReadFault) → Breaks writer limits (root_of writer) bytes fault
      → UnlessOutOfMemory result (IsUnread result (λ e. read_fault e ≡ Some fault))
