-- What a call that puts text tells of the output.
use Rattle.std.specs.Prelude.{◌≡◌, ◌≢◌, ◌⊎◌, ℕ, List}
use Rattle.avro_device.specs.PutFront.{PutsFrontOf}
use Rattle.avro_file.specs.declared.error.CopyError.{CopyError}

-- the output failed between two states, or took none of the bytes
abbrev pub Fails : {O : Type 0} → (O → ℕ) → (O → Type 0) → O → O → Type 0
Fails failures stuck from to = (failures to ≢ failures from) ⊎ stuck to

-- what an error tells of the output between two states
pub record OutputTold {O : Type 0} (failures : O → ℕ) (stuck : O → Type 0) (from to : O) (e : CopyError) : Type 0 where
  -- the output failed, or memory ran out
  pub error : (e ≡ CopyError.OutputFailed) ⊎ (e ≡ CopyError.OutOfMemory)
  -- the output failed only if the error says so
  pub works : e ≢ CopyError.OutputFailed → failures to ≡ failures from
  -- and then it did
  pub fails : e ≡ CopyError.OutputFailed → Fails failures stuck from to

-- bytes were put and flushed
pub record PutsFlushed {O : Type 0} (keeps : O → List ℕ → O → Type 0) (flushed : O → Type 0) (failures : O → ℕ) (from : O) (bytes : List ℕ) (to : O) : Type 0 where
  -- all of them were put
  pub put : keeps from bytes to
  -- the last call was a successful flush
  pub flushes : flushed to
  -- the output did not fail
  pub works : failures to ≡ failures from

-- the output failed before bytes were put and flushed
pub record PutFails {O : Type 0} (keeps : O → List ℕ → O → Type 0) (failures : O → ℕ) (stuck : O → Type 0) (from : O) (bytes : List ℕ) (to : O) (e : CopyError) : Type 0 where
  -- a prefix of them was put
  pub front : PutsFrontOf keeps from to bytes
  -- the error says that the output failed
  pub error : e ≡ CopyError.OutputFailed
  -- and it did
  pub fails : Fails failures stuck from to

-- what becomes of the text that is held, and of the output, before an error is told as another
pub data PutsBefore {O : Type 0} (keeps : O → List ℕ → O → Type 0) (failures : O → ℕ) (stuck : O → Type 0) (from : O) (held : List ℕ) (to : O) (e told : CopyError) : Type 0 where
  -- the output failed before, and nothing is put
  failed_before : e ≡ CopyError.OutputFailed → told ≡ e → to ≡ from → PutsBefore keeps failures stuck from held to e told
  -- all of the text is put
  all_put : e ≢ CopyError.OutputFailed → told ≡ e → keeps from held to → failures to ≡ failures from → PutsBefore keeps failures stuck from held to e told
  -- the output fails now, and that is told
  fails_now : e ≢ CopyError.OutputFailed → PutFails keeps failures stuck from held to told → PutsBefore keeps failures stuck from held to e told
