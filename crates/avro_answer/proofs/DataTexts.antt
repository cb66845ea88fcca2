-- The texts of what is found in data, and what a refusal of one text says of both.
use Rattle.std.proofs.Common.{◌≡◌, ◌≢◌, ℕ, List, codes, Option, Some, None, Result, Ok, Err, refl, ap, subst}
use Rattle.std.specs.Prelude.{IfOk}
use Rattle.std.specs.Option.{IfSome}
use Rattle.avro_schema.specs.Node.{Node}
use Rattle.avro_schema.specs.Fits.{LimitValues}
use Rattle.avro_cursor.specs.declared.error.ReadError.{ReadError}
use Rattle.avro_compare.specs.Seen.{fault_of}
use Rattle.avro_compare.specs.declared.error.Fault.{Fault}
use Rattle.avro_resolve.specs.declared.error.ReadResolveError.{ReadResolveError}
use Rattle.avro_answer.specs.DataRead.{error_text, fault_found, IsDatumTold}
use Rattle.avro_answer.specs.ReadAnswer.{AreSchemas, DataAnswer, IsAllFound, RefusesTexts, broken, unresolved, datum}
use Rattle.avro_answer.specs.ReadText.{IsReadAs}
use Rattle.avro_answer.specs.RefusalText.{HasSchema, RefusesOne, refusal_text}
use Rattle.avro_answer.specs.inside.AtFront.{IsRefusalTold}
use Rattle.avro_answer.specs.inside.Read.{IsReaderSchema, RefusesReaderOf}
use Rattle.avro_answer.specs.declared.answer.Answer.{Answer}
use Rattle.avro_answer.specs.declared.form.Form.{Form}
use Rattle.avro_answer.specs.declared.refusal.Refusal.{Refusal}
use Rattle.avro_answer.proofs.Refused.{reader_of_pair}

module _ (text : List ℕ) (status : ℕ) (is_three : status ≡ 3) where
  -- the line of a fault of resolution
  fault_told : (f : Fault) → text ≡ refusal_text (codes "data") (error_text (ReadResolveError.Resolve f))
      → IsRefusalTold (ReadResolveError.Resolve f) text status
  fault_told f h = record { found = unresolved (fault_of f); says = refl; told = λ _ _. h; status_is = is_three }

  -- the line of one of the bytes
  reading_told : (e : ReadError) → (e ≡ ReadError.OutOfMemory → ⊥) → text ≡ refusal_text (codes "data") (error_text (ReadResolveError.Read e))
      → IsRefusalTold (ReadResolveError.Read e) text status
  reading_told ReadError.OutOfMemory other h = absurd (other refl)
  reading_told (ReadError.EndOfInput place) other h = record { found = broken _; says = refl; told = λ _ _. h; status_is = is_three }
  reading_told (ReadError.InvalidNumber place) other h = record { found = broken _; says = refl; told = λ _ _. h; status_is = is_three }
  reading_told (ReadError.InvalidBoolean place) other h = record { found = broken _; says = refl; told = λ _ _. h; status_is = is_three }
  reading_told (ReadError.InvalidText place) other h = record { found = broken _; says = refl; told = λ _ _. h; status_is = is_three }
  reading_told (ReadError.UnknownIndex place) other h = record { found = broken _; says = refl; told = λ _ _. h; status_is = is_three }
  reading_told (ReadError.InvalidLength place) other h = record { found = broken _; says = refl; told = λ _ _. h; status_is = is_three }
  reading_told (ReadError.WrongBlockSize place) other h = record { found = broken _; says = refl; told = λ _ _. h; status_is = is_three }
  reading_told (ReadError.DuplicateKey place) other h = record { found = broken _; says = refl; told = λ _ _. h; status_is = is_three }
  reading_told ReadError.LimitExceeded other h = record { found = broken _; says = refl; told = λ _ _. h; status_is = is_three }

  -- the line of an error that is not that memory ran out
  pub error_told : (e : ReadResolveError) → e ≢ ReadResolveError.Read ReadError.OutOfMemory → text ≡ refusal_text (codes "data") (error_text e) → IsRefusalTold e text status
  error_told (ReadResolveError.Read e) other h = reading_told e (λ is. other (ap ReadResolveError.Read is)) h
  error_told (ReadResolveError.Resolve f) other h = fault_told f h

module _ (writer : List Node) (reader : Option (List Node)) (limits : LimitValues) (form : Form) (skip : ℕ) (bytes : List ℕ) where
  -- a datum that is told, and a fault
  pub datum_answer : (text : List ℕ) (status : ℕ) → status ≡ 0 → IsDatumTold writer reader limits form skip bytes text → DataAnswer writer reader limits form skip bytes text status
  datum_answer text status is h = record { found = datum h.value h.len; is_found = h.is_found; told = h.told; status_is = is }

  fault_answer : (text : List ℕ) (status : ℕ) (e : ReadResolveError) → IfSome (fault_found e) (IsAllFound writer reader limits skip bytes) → IsRefusalTold e text status
      → DataAnswer writer reader limits form skip bytes text status
  fault_answer text status e is_found h = record {
    found = h.found;
    is_found = subst (λ o. IfSome o (IsAllFound writer reader limits skip bytes)) h.says is_found;
    told = h.told form _;
    status_is = h.status_is;
  }

  pub refused : {E : Type 0} (e : ReadResolveError) → IfSome (fault_found e) (IsAllFound writer reader limits skip bytes) → (result : Result Answer E)
      → IfOk result (λ a. IsRefusalTold e a.text.items a.status) → IfOk result (λ a. DataAnswer writer reader limits form skip bytes a.text.items a.status)
  refused e is_found (Ok a) h = fault_answer a.text.items a.status e is_found h
  refused e is_found (Err x) h = tt

module _ (writer : List ℕ) (written : List Node) (written_as : IsReadAs writer written) where
  pub reader_refused : (reader : Option (List ℕ)) (r : Refusal) → RefusesReaderOf reader r → RefusesTexts writer reader r
  reader_refused None r h = absurd h
  reader_refused (Some reader) r h = reader_of_pair writer reader written written_as r h

pub writer_refused_of : (writer : List ℕ) (reader : Option (List ℕ)) (r : Refusal) → RefusesOne writer r → RefusesTexts writer reader r
writer_refused_of writer None r h = h
writer_refused_of writer (Some reader) (Refusal.Writer e) h = h
writer_refused_of writer (Some reader) (Refusal.Reader e) h = absurd h
writer_refused_of writer (Some reader) (Refusal.Certificate e) h = h
writer_refused_of writer (Some reader) Refusal.OutOfMemory h = tt

pub writer_schema : (writer : List ℕ) (reader : Option (List ℕ)) → AreSchemas writer reader → HasSchema writer
writer_schema writer None h = h
writer_schema writer (Some reader) h = h.0

pub reader_schema : (writer : List ℕ) (reader : Option (List ℕ)) → AreSchemas writer reader → IsReaderSchema reader
reader_schema writer None h = tt
reader_schema writer (Some reader) h = h.1
