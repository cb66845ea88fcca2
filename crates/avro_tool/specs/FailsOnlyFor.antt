-- When telling what was found fails, and what is so of the output then.
use Rattle.std.specs.Prelude.{◌≡◌, ◌≢◌, ◌⊎◌, ℕ, Result, IsErrOf, OnOk}
use Rattle.std.specs.Result.{IfErr}
use Rattle.avro_tool.specs.declared.failure.Failure.{Failure}

-- of an output by its number of failures, and whether it took nothing, before and after
pub record FailsOnlyFor {T O : Type 0} (is_failure : Failure → Type 0) (failures : O → ℕ) (stuck : O → Type 0) (old new : O) (result : Result T Failure) : Type 0 where
  -- it fails for nothing but this
  pub only : IfErr result is_failure
  -- the output is blamed only where it failed, or took nothing
  pub blamed : IsErrOf result Failure.CannotPrint → (failures new ≢ failures old) ⊎ stuck new
  -- it did not fail where memory ran out
  pub memory : IsErrOf result Failure.OutOfMemory → failures new ≡ failures old
  -- nor where all was told
  pub works : OnOk result (failures new ≡ failures old)
