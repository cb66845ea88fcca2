-- What a step and a copy do to their devices.
use Rattle.std.specs.Prelude.{ℕ, List, Result, Ok}
use Rattle.avro_container.specs.declared.copying.copier.Copier.{Copier}
use Rattle.avro_file.specs.declared.error.CopyError.{CopyError}
use Rattle.avro_container.specs.declared.copying.Step.{Step}
use Rattle.avro_file.specs.BlockFails.{FileLimitValues}
use Rattle.avro_file.specs.Copied.{Job}
use Rattle.avro_container.specs.CopierSeen.{stored_of, job_in, limits_in, outcome_of}
use Rattle.avro_file.specs.FileFault.{FileFault}
use Rattle.avro_container.specs.Moved.{Moved}
use Rattle.avro_container.specs.Steps.{Steps, CopiedWhole, PutInAll, FaultStands}

-- A step took some bytes and put some, as it answers.
abbrev pub Moves : {I O : Type 0} → (I → List ℕ → I → Type 0) → (O → List ℕ → O → Type 0) → Type 0 → I → I → O → O → Copier → Copier → Result Step CopyError → Type 0
Moves gives keeps ended input input_after output output_after before after result =
    Moved gives keeps input input_after output output_after
    (λ taken put. Steps (job_in before) (limits_in before) ended (stored_of before) (stored_of after) taken put (outcome_of result))

-- the number of data, where the result names a block
abbrev pub IfBlock : Result Step CopyError → (ℕ → Type 0) → Type 0
IfBlock (Ok (Step.Block n)) P = P n
IfBlock r P = Unit {0}

-- A whole file was taken, and its copy was put.
abbrev pub CopiesFile : {I O : Type 0} → (I → List ℕ → I → Type 0) → (O → List ℕ → O → Type 0) → I → I → O → O → Job → FileLimitValues → Type 0 → ℕ → ℕ → Type 0
CopiesFile gives keeps input input_after output output_after job limits ended items blocks =
    Moved gives keeps input input_after output output_after (CopiedWhole job limits ended items blocks)

-- Nothing was put, or a prefix of the copy of the header and the blocks with which the bytes that were taken begin.
abbrev pub CopiesFront : {I O : Type 0} → (I → List ℕ → I → Type 0) → (O → List ℕ → O → Type 0) → I → I → O → O → Job → FileLimitValues → Type 0
CopiesFront gives keeps input input_after output output_after job limits =
    Moved gives keeps input input_after output output_after (PutInAll job limits)

-- A fault of the file was reported: it stands there, and exactly what stands before it was copied.
abbrev pub CopiesUpTo : {I O : Type 0} → (I → List ℕ → I → Type 0) → (O → List ℕ → O → Type 0) → I → I → O → O → Job → FileLimitValues → Type 0 → FileFault → Type 0
CopiesUpTo gives keeps input input_after output output_after job limits ended fault =
    Moved gives keeps input input_after output output_after (λ taken put. FaultStands job limits ended taken put fault)
