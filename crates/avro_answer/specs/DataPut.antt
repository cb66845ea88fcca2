-- What is put of a datum that is read.
use Rattle.std.specs.Prelude.{◌≡◌, ◌≢◌, ◌⊎◌, ℕ, List, [], Option, Result, Err, IsErrOf, OnOk}
use Rattle.std.specs.Option.{IfSome}
use Rattle.avro_schema.specs.Fits.{LimitValues}
use Rattle.avro_schema.specs.Node.{Node}
use Rattle.avro_device.specs.PutFront.{PutsFrontOf}
use Rattle.avro_display.specs.declared.put_error.PutError.{PutError}
use Rattle.avro_resolve.specs.declared.error.ReadResolveError.{ReadResolveError}
use Rattle.avro_answer.specs.DataRead.{fault_found, IsDatumTold}
use Rattle.avro_answer.specs.ReadAnswer.{IsAllFound}
use Rattle.avro_answer.specs.declared.data_error.DataError.{DataError}
use Rattle.avro_answer.specs.declared.form.Form.{Form}

-- a claim on the error of data that are refused, if the result is one
abbrev pub IfRefused : {A : Type 0} → Result A DataError → (ReadResolveError → Type 0) → Type 0
IfRefused (Err (DataError.Refused e)) P = P e
IfRefused r P = Unit {0}

-- a claim that is made if putting failed
abbrev pub IfPutFails : {A : Type 0} → Result A DataError → Type 0 → Type 0
IfPutFails (Err (DataError.Put e)) P = P
IfPutFails r P = Unit {0}

-- what is put of the text of the datum that begins after some bytes, and told of the output, by the result
pub record DatumPut {O A : Type 0} (keeps : O → List ℕ → O → Type 0) (failures : O → ℕ) (stuck : O → Type 0) (writer : List Node) (reader : Option (List Node)) (limits : LimitValues) (form : Form) (skip : ℕ) (bytes : List ℕ) (from to : O) (result : Result A DataError) : Type 0 where
  -- after an Ok the text was put
  pub put : OnOk result ((text : List ℕ) × IsDatumTold writer reader limits form skip bytes text × keeps from text to)
  -- where putting failed, a prefix of it was
  pub front : IfPutFails result ((text : List ℕ) × IsDatumTold writer reader limits form skip bytes text × PutsFrontOf keeps from to text)
  -- where the data are refused, nothing was, and they have the fault that the error tells
  pub refused : IfRefused result (λ e. keeps from [] to × IfSome (fault_found e) (IsAllFound writer reader limits skip bytes))
  -- after an Ok the output did not fail
  pub works : OnOk result (failures to ≡ failures from)
  -- it did, or took none of the bytes, where the error says that it failed
  pub fails : IsErrOf result (DataError.Put PutError.CannotWrite) → (failures to ≢ failures from) ⊎ stuck to
  -- it did not where memory ran out
  pub memory : IsErrOf result (DataError.Put PutError.OutOfMemory) → failures to ≡ failures from
  -- nor where the data are refused
  pub unused : IfRefused result (λ e. failures to ≡ failures from)
