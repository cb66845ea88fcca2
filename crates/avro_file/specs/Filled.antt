-- What filling a buffer does, where `gives` says which bytes an input moved between two states.
use Rattle.std.specs.Prelude.{◌≡◌, ◌≢◌, ℕ, ◌≤◌, List, ◌++◌, length, Result, Ok, Err}
use Rattle.avro_file.specs.declared.error.CopyError.{CopyError}
use Rattle.avro_file.specs.declared.input.PartError.{PartError}

-- the buffer grew by what was taken
pub record GrowsBy {I : Type 0} (gives : I → List ℕ → I → Type 0) (from to : I) (old new : List ℕ) : Type 0 where
  pub bytes : List ℕ
  pub taken : gives from bytes to
  pub grown : new ≡ old ++ bytes

-- Some bytes were taken, which may be lost.
abbrev pub TakesSome : {I : Type 0} → (I → List ℕ → I → Type 0) → I → I → Type 0
TakesSome gives from to = (bytes : List ℕ) × gives from bytes to

-- At most a number of bytes was taken, which may be lost.
pub record TakesAtMost {I : Type 0} (gives : I → List ℕ → I → Type 0) (from to : I) (most : ℕ) : Type 0 where
  pub bytes : List ℕ
  pub taken : gives from bytes to
  pub few : length bytes ≤ most

-- a claim that is made only if the input did not fail; a failed one may lose what it took
abbrev pub UnlessDevice : PartError → Type 0 → Type 0
UnlessDevice PartError.Device P = Unit {0}
UnlessDevice e P = P

-- the same of a result
abbrev pub UnlessLost : {T : Type 0} → Result T PartError → Type 0 → Type 0
UnlessLost (Ok x) P = P
UnlessLost (Err e) P = UnlessDevice e P

-- a claim that is made only if the input did not fail
abbrev pub UnlessFailed : {T : Type 0} → Result T CopyError → Type 0 → Type 0
UnlessFailed result P = result ≢ Err CopyError.InputFailed → P
