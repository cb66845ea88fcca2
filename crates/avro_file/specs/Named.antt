-- What an error can be.
use Rattle.std.specs.Prelude.{◌≡◌, ◌⊎◌, IfNone}
use Rattle.avro_file.specs.declared.error.CopyError.{CopyError}
use Rattle.avro_file.specs.FileSeen.{file_fault}

-- An error is a fault of the file, or a device failed, memory ran out, or a call before this one failed.
abbrev pub IsNamed : CopyError → Type 0
IsNamed e = IfNone (file_fault e) ((e ≡ CopyError.InputFailed) ⊎ (e ≡ CopyError.OutputFailed) ⊎ (e ≡ CopyError.OutOfMemory) ⊎ (e ≡ CopyError.FailedBefore))
