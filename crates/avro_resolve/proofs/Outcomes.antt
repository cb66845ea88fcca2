-- What holds of a result's value, where there is one, through the steps of resolution.
use Rattle.std.proofs.Common.{◌≡◌, ℕ, Bool, true, cond, Result, Ok, Err}
use Rattle.std.specs.Prelude.{IfOk}
use Rattle.std.proofs.lemmas.Bool.{cond_both}
use Rattle.avro_compare.specs.Fault.{ResolutionFault}
use Rattle.avro_compare.specs.Resolve.{inside, result_map, both}

pub IfOk-inside : {A : Type 0} (P : A → Type 0) (step : ℕ) (r : Result A ResolutionFault) → IfOk r P → IfOk (inside step r) P
IfOk-inside P step (Ok v) h = h
IfOk-inside P step (Err f) h = tt

pub IfOk-result_map : {A B : Type 0} (P : A → Type 0) (Q : B → Type 0) (f : A → B) (r : Result A ResolutionFault) → IfOk r P → ((x : A) → P x → Q (f x)) → IfOk (result_map f r) Q
IfOk-result_map P Q f (Ok v) h step = step v h
IfOk-result_map P Q f (Err e) h step = tt

pub IfOk-both : {A B C : Type 0} (P : A → Type 0) (Q : B → Type 0) (S : C → Type 0) (f : A → B → C) (a : Result A ResolutionFault) (b : Result B ResolutionFault)
    → IfOk a P → IfOk b Q → ((x : A) (y : B) → P x → Q y → S (f x y)) → IfOk (both f a b) S
IfOk-both P Q S f (Ok x) (Ok y) p q step = step x y p q
IfOk-both P Q S f (Ok x) (Err e) p q step = tt
IfOk-both P Q S f (Err e) b p q step = tt

pub IfOk-cond : {A : Type 0} (P : A → Type 0) (test : Bool) (r : Result A ResolutionFault) (f : ResolutionFault) → (test ≡ true → IfOk r P) → IfOk (cond test r (Err f)) P
IfOk-cond P test r f h = cond_both test r (Err f) (λ x. IfOk x P) h (λ e. tt)
