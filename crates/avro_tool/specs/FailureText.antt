-- What the program says where it ends without an answer: the exit status, and the line of what is refused.
use Rattle.std.specs.Borrow.{Bor}
use Rattle.std.specs.Prelude.{◌≡◌, ◌≢◌, ℕ, Bool, List, IsSome, IsSomeAnd, if◌then◌else◌}
use Rattle.avro_cursor.specs.declared.error.ReadError.{ReadError}
use Rattle.avro_resolve.specs.declared.error.ReadResolveError.{ReadResolveError}
use Rattle.avro_answer.specs.DataRead.{error_text, fault_found}
use Rattle.avro_answer.specs.ReadAnswer.{Found}
use Rattle.avro_answer.specs.declared.data_error.DataError.{DataError}
use Rattle.avro_schema_json.specs.Refusals.{schema_code}
use Rattle.avro_file.specs.FileSeen.{file_fault}
use Rattle.avro_certificate.specs.CertificateRead.{certificate_code}
use Rattle.avro_answer.specs.RefusalText.{refusal_text}
use Rattle.avro_display.specs.declared.put_error.PutError.{PutError}
use Rattle.clap.specs.Values.{kind_of}
use Rattle.clap.specs.declared.error.Error.{Error}
use Rattle.clap.specs.declared.error.kind.ErrorKind.{ErrorKind}
use Rattle.avro_tool.specs.ContainerText.{container_text}
use Rattle.avro_tool.specs.declared.failure.Failure.{Failure}

-- the exit status of a failure: 3 for a refusal, 4 for a file or an output that fails, 5 for memory, 64 for usage
abbrev pub exit_status : Failure → ℕ
exit_status (Failure.Schema word e) = 3
exit_status (Failure.Certificate word e) = 3
exit_status (Failure.Container word e) = 3
exit_status (Failure.Data word e) = 3
exit_status (Failure.CannotRead word) = 4
exit_status (Failure.CannotWrite word) = 4
exit_status Failure.CannotPrint = 4
exit_status Failure.OutOfMemory = 5
exit_status _ = 64

-- the line of a refused text or container file, or of refused data, by the word that names it
abbrev pub IsRefusal : Failure → List ℕ → Type 0
IsRefusal (Failure.Schema word e) line = line ≡ refusal_text word.now (schema_code e)
IsRefusal (Failure.Certificate word e) line = line ≡ refusal_text word.now (certificate_code e)
IsRefusal (Failure.Container word e) line = line ≡ container_text word.now e
IsRefusal (Failure.Data word e) line = line ≡ refusal_text word.now (error_text e)
IsRefusal _ line = Unit {0}

-- an output that fails, or no memory
abbrev pub put_failure : PutError → Failure
put_failure PutError.CannotWrite = Failure.CannotPrint
put_failure PutError.OutOfMemory = Failure.OutOfMemory

-- a failure of telling what was found: standard output cannot be written, or memory ran out
abbrev pub IsPutFailure : Failure → Type 0
IsPutFailure Failure.CannotPrint = Unit {0}
IsPutFailure Failure.OutOfMemory = Unit {0}
IsPutFailure _ = ⊥

-- a failure of telling what a file has, which is named by this word: that of telling, or it cannot be read, or is refused for a fault
abbrev pub IsFileFailure : Bor (List ℕ) → Failure → Type 0
IsFileFailure word (Failure.Container w e) = (w ≡ word) × IsSome (file_fault e)
IsFileFailure word (Failure.CannotRead w) = w ≡ word
IsFileFailure word f = IsPutFailure f

-- the error that is told of data that may have been cut: where those end in the datum, a limit is exceeded
abbrev pub told_error : Bool → ReadResolveError → ReadResolveError
told_error is_cut (ReadResolveError.Read (ReadError.EndOfInput place)) = ReadResolveError.Read (if is_cut then ReadError.LimitExceeded else ReadError.EndOfInput place)
told_error is_cut e = e

-- data that are refused, or no memory
abbrev pub refused_failure : Bor (List ℕ) → ReadResolveError → Failure
refused_failure word (ReadResolveError.Read ReadError.OutOfMemory) = Failure.OutOfMemory
refused_failure word e = Failure.Data word e

-- the failure of data in a file, which is named by this word, whose text is not put
abbrev pub data_failure : Bor (List ℕ) → Bool → DataError → Failure
data_failure word is_cut (DataError.Refused e) = refused_failure word (told_error is_cut e)
data_failure word is_cut (DataError.Put e) = put_failure e

-- a failure of telling the datum in a file, which is named by this word: that of telling, or the data are refused for a fault that is found in them
abbrev pub IsDataFailure : Bor (List ℕ) → Bool → (Found → Type 0) → Failure → Type 0
IsDataFailure word is_cut is_found (Failure.Data w e) = (w ≡ word) × (error : ReadResolveError) × (e ≡ told_error is_cut error) × IsSomeAnd (fault_found error) is_found
IsDataFailure word is_cut is_found f = IsPutFailure f

-- words that ask for nothing: memory ran out exactly where the parser says so
pub record IsUsageOf (e : Error) (failure : Failure) : Type 0 where
  pub memory : kind_of e ≡ ErrorKind.OutOfMemory → failure ≡ Failure.OutOfMemory
  pub words : kind_of e ≢ ErrorKind.OutOfMemory → failure ≡ Failure.Usage e
