-- What the failure of data is whose text is not put.
use Rattle.std.proofs.Common.{◌≡◌, ◌≢◌, ◌⊎◌, inl, inr, ℕ, Bool, true, false, List, Err, refl, sym, subst}
use Rattle.std.specs.Borrow.{Bor}
use Rattle.std.specs.Prelude.{IsErrOf, IsSomeAnd}
use Rattle.std.specs.Option.{IfSome}
use Rattle.avro_cursor.specs.declared.error.ReadError.{ReadError}
use Rattle.avro_display.specs.declared.put_error.PutError.{PutError}
use Rattle.avro_resolve.specs.declared.error.ReadResolveError.{ReadResolveError}
use Rattle.avro_answer.specs.DataPut.{IfPutFails, IfRefused}
use Rattle.avro_answer.specs.DataRead.{fault_found}
use Rattle.avro_answer.specs.ReadAnswer.{Found}
use Rattle.avro_answer.specs.declared.data_error.DataError.{DataError}
use Rattle.avro_tool.specs.FailureText.{data_failure, refused_failure, told_error, IsDataFailure}
use Rattle.avro_tool.specs.declared.failure.Failure.{Failure}

-- the failure of refused data tells their fault, unless memory ran out
abbrev Tells : Bor (List ℕ) → Bool → (Found → Type 0) → ReadResolveError → Failure → Type 0
Tells word is_cut is_found e f = (f ≡ Failure.OutOfMemory) ⊎ ((f ≡ Failure.Data word (told_error is_cut e)) × IsSomeAnd (fault_found e) is_found)

module _ (word : Bor (List ℕ)) (is_found : Found → Type 0) where
  tells : (is_cut : Bool) (e : ReadResolveError) → IfSome (fault_found e) is_found → Tells word is_cut is_found e (refused_failure word (told_error is_cut e))
  tells is_cut (ReadResolveError.Resolve f) h = inr (refl, h)
  tells true (ReadResolveError.Read (ReadError.EndOfInput place)) h = inr (refl, h)
  tells false (ReadResolveError.Read (ReadError.EndOfInput place)) h = inr (refl, h)
  tells is_cut (ReadResolveError.Read (ReadError.InvalidNumber place)) h = inr (refl, h)
  tells is_cut (ReadResolveError.Read (ReadError.InvalidBoolean place)) h = inr (refl, h)
  tells is_cut (ReadResolveError.Read (ReadError.InvalidText place)) h = inr (refl, h)
  tells is_cut (ReadResolveError.Read (ReadError.UnknownIndex place)) h = inr (refl, h)
  tells is_cut (ReadResolveError.Read (ReadError.InvalidLength place)) h = inr (refl, h)
  tells is_cut (ReadResolveError.Read (ReadError.WrongBlockSize place)) h = inr (refl, h)
  tells is_cut (ReadResolveError.Read (ReadError.DuplicateKey place)) h = inr (refl, h)
  tells is_cut (ReadResolveError.Read ReadError.LimitExceeded) h = inr (refl, h)
  tells is_cut (ReadResolveError.Read ReadError.OutOfMemory) h = inl refl

  fails_so : (is_cut : Bool) (e : ReadResolveError) (f : Failure) → Tells word is_cut is_found e f → IsDataFailure word is_cut is_found f
  fails_so is_cut e f (inl is) = subst (IsDataFailure word is_cut is_found) (sym is) tt
  fails_so is_cut e f (inr (is, h)) = subst (IsDataFailure word is_cut is_found) (sym is) (refl, e, refl, h)

  not_printed : (is_cut : Bool) (e : ReadResolveError) (f : Failure) → Tells word is_cut is_found e f → f ≢ Failure.CannotPrint
  not_printed is_cut e f (inl is) printed = absurd (cc)
  not_printed is_cut e f (inr (is, h)) printed = absurd (cc)

  -- why data failed, of which so much was put
  pub data_fails : (is_put : Type 0) (is_cut : Bool) (error : DataError) → IfRefused {A = Unit {0}} (Err error) (λ e. is_put × IfSome (fault_found e) is_found)
      → IsDataFailure word is_cut is_found (data_failure word is_cut error)
  data_fails is_put is_cut (DataError.Refused e) h = fails_so is_cut e (refused_failure word (told_error is_cut e)) (tells is_cut e h.1)
  data_fails is_put is_cut (DataError.Put PutError.CannotWrite) h = tt
  data_fails is_put is_cut (DataError.Put PutError.OutOfMemory) h = tt

  -- the output failed where it is blamed
  pub data_blames : {B : Type 0} (is_put : Type 0) (is_cut : Bool) (error : DataError) → IfRefused {A = Unit {0}} (Err error) (λ e. is_put × IfSome (fault_found e) is_found)
      → (IsErrOf {T = Unit {0}} (Err error) (DataError.Put PutError.CannotWrite) → B) → data_failure word is_cut error ≡ Failure.CannotPrint → B
  data_blames is_put is_cut (DataError.Refused e) h blamed is = absurd (not_printed is_cut e (refused_failure word (told_error is_cut e)) (tells is_cut e h.1) is)
  data_blames is_put is_cut (DataError.Put PutError.CannotWrite) h blamed is = blamed refl
  data_blames is_put is_cut (DataError.Put PutError.OutOfMemory) h blamed is = absurd (cc)

module _ (word : Bor (List ℕ)) (is_cut : Bool) where
  -- it did not where memory ran out
  pub data_memory : {B : Type 0} (error : DataError) → IfRefused {A = Unit {0}} (Err error) (λ _. B) → (IsErrOf {T = Unit {0}} (Err error) (DataError.Put PutError.OutOfMemory) → B)
      → data_failure word is_cut error ≡ Failure.OutOfMemory → B
  data_memory (DataError.Refused e) h ran_out is = h
  data_memory (DataError.Put PutError.CannotWrite) h ran_out is = absurd (cc)
  data_memory (DataError.Put PutError.OutOfMemory) h ran_out is = ran_out refl

  -- what is so of data that are refused
  pub data_refused : (P : ReadResolveError → Type 0) (w : Bor (List ℕ)) (told : ReadResolveError) (error : DataError) → IfRefused {A = Unit {0}} (Err error) P
      → data_failure word is_cut error ≡ Failure.Data w told → (e : ReadResolveError) × P e
  data_refused P w told (DataError.Refused e) h is = (e, h)
  data_refused P w told (DataError.Put PutError.CannotWrite) h is = absurd (cc)
  data_refused P w told (DataError.Put PutError.OutOfMemory) h is = absurd (cc)

-- where data are not told, nothing was put, or a prefix
pub front_or_none : {None Front : Type 0} (P : ReadResolveError → Type 0) (error : DataError) → IfRefused {A = Unit {0}} (Err error) (λ e. None × P e) → IfPutFails {A = Unit {0}} (Err error) Front → None ⊎ Front
front_or_none P (DataError.Refused e) refused failed = inl refused.0
front_or_none P (DataError.Put e) refused failed = inr failed
