-- How contracts see faults and errors of resolution.
use Rattle.std.specs.Prelude.{◌≡◌, ℕ, Result, Ok, Err}
use Rattle.avro_schema.specs.Value.{Value}
use Rattle.avro_schema.specs.Seen.{value_of}
use Rattle.avro_schema.specs.declared.datum.Datum.{Datum}
use Rattle.avro_cursor.specs.declared.error.ReadError.{ReadError}
use Rattle.avro_cursor.specs.declared.error.ReadError.TheVariants.{OutOfMemory}
use Rattle.avro_compare.specs.Resolve.{Resolved}
use Rattle.avro_compare.specs.Seen.{fault_of}
use Rattle.avro_compare.specs.declared.error.Fault.{Fault}
use Rattle.avro_resolve.specs.declared.error.ResolveError.{ResolveError}
use Rattle.avro_resolve.specs.declared.error.ReadResolveError.{ReadResolveError}

-- the result is what resolution gives, unless memory ran out
abbrev pub Answers : Result Datum ResolveError → Resolved → Type 0
Answers (Ok d) resolved = resolved ≡ Ok (value_of d)
Answers (Err (ResolveError.Fault f)) resolved = resolved ≡ Err (fault_of f)
Answers (Err ResolveError.Memory) resolved = Unit {0}

-- the result stands for what resolution gives, unless memory ran out
abbrev pub StandsForResult : {O : Type 0} → (O → Value → Type 0) → Result O ResolveError → Resolved → Type 0
StandsForResult S (Ok out) resolved = (u : Value) × S out u × (resolved ≡ Ok u)
StandsForResult S (Err (ResolveError.Fault f)) resolved = resolved ≡ Err (fault_of f)
StandsForResult S (Err ResolveError.Memory) resolved = Unit {0}

-- a claim that is made only if memory did not run out
abbrev pub UnlessOutOfMemory : {A : Type 0} → Result A ReadResolveError → Type 0 → Type 0
UnlessOutOfMemory (Err (ReadResolveError.Read OutOfMemory)) P = Unit {0}
UnlessOutOfMemory r P = P

-- the result is what resolution gives of a datum whose encoding has this length
abbrev pub AnswersAfter : Result (Datum × ℕ) ReadResolveError → Resolved → ℕ → Type 0
AnswersAfter (Ok r) resolved len = (resolved ≡ Ok (value_of r.0)) × (r.1 ≡ len)
AnswersAfter (Err (ReadResolveError.Resolve f)) resolved len = resolved ≡ Err (fault_of f)
AnswersAfter (Err (ReadResolveError.Read e)) resolved len = ⊥

-- what was built stands for what resolution gives of a datum whose encoding has this length
abbrev pub BuiltAfter : {O : Type 0} → (O → Value → Type 0) → Result (O × ℕ) ReadResolveError → Resolved → ℕ → Type 0
BuiltAfter S (Ok r) resolved len = (u : Value) × S r.0 u × (resolved ≡ Ok u) × (r.1 ≡ len)
BuiltAfter S (Err (ReadResolveError.Resolve f)) resolved len = resolved ≡ Err (fault_of f)
BuiltAfter S (Err (ReadResolveError.Read e)) resolved len = ⊥

-- a claim on the error of reading, if the result is one
abbrev pub IfUnread : {A : Type 0} → Result A ReadResolveError → (ReadError → Type 0) → Type 0
IfUnread (Err (ReadResolveError.Read e)) P = P e
IfUnread r P = Unit {0}

-- a claim on the fault of resolution, if the result is one
abbrev pub IfUnresolved : {A : Type 0} → Result A ReadResolveError → (Fault → Type 0) → Type 0
IfUnresolved (Err (ReadResolveError.Resolve f)) P = P f
IfUnresolved r P = Unit {0}

-- the result is an error of reading, of which this claim holds
abbrev pub IsUnread : {A : Type 0} → Result A ReadResolveError → (ReadError → Type 0) → Type 0
IsUnread (Err (ReadResolveError.Read e)) P = P e
IsUnread r P = ⊥
