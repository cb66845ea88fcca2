-- A failure that is passed on.
use Rattle.std.proofs.Common.{◌≡◌, ℕ, Err, subst, sym}
use Rattle.avro_tool.specs.FailsOnlyFor.{FailsOnlyFor}
use Rattle.avro_tool.specs.FailureText.{IsPutFailure}
use Rattle.avro_tool.specs.declared.failure.Failure.{Failure}

-- an output that fails is a failure of telling what was found
pub print_fails : {A B O : Type 0} (failures : O → ℕ) (stuck : O → Type 0) (old new : O) (e : Failure)
    → FailsOnlyFor {T = A} (λ (f : Failure). f ≡ Failure.CannotPrint) failures stuck old new (Err e) → FailsOnlyFor {T = B} IsPutFailure failures stuck old new (Err e)
print_fails failures stuck old new e h =
    record { only = subst IsPutFailure (sym h.only) tt; blamed = λ is. h.blamed cc; memory = λ is. h.memory cc; works = tt }
