-- Small facts of answers and of bytes.
use Rattle.std.proofs.Common.{◌≡◌, ◌≢◌, ℕ, ◌≤◌, List, [], ◌∷◌, length, Some, Result, Ok, Err, refl, sym, ap, ◌∙◌, arith}
use Rattle.std.proofs.lemmas.Option.{none-some}
use Rattle.avro_file.specs.declared.error.CopyError.{CopyError}
use Rattle.avro_file.specs.FileFault.{FileFault}
use Rattle.avro_file.specs.FileSeen.{file_fault}

pub err_inj : (T : Type 0) (e d : CopyError) → ◌≡◌ {A = Result T CopyError} (Err e) (Err d) → e ≡ d
err_inj T e d q = cc

pub ok_err : (T : Type 0) (x : T) (e : CopyError) → ◌≡◌ {A = Result T CopyError} (Ok x) (Err e) → ⊥
ok_err T x e q = cc

-- an error that reports a fault is not that the input failed
pub not_failed : (T : Type 0) (e : CopyError) (f : FileFault) → file_fault e ≡ Some f → ◌≢◌ {A = Result T CopyError} (Err e) (Err CopyError.InputFailed)
not_failed T e f is q = none-some f (sym (ap file_fault (err_inj T e CopyError.InputFailed q)) ∙ is)

pub no_bytes : (xs : List ℕ) → length xs ≤ 0 → xs ≡ []
no_bytes [] h = refl
no_bytes (x ∷ xs) h = absurd (omega (arith, h))
