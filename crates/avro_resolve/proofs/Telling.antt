-- Facts of answers that rest on a premise.
use Rattle.std.proofs.Common.{Option, Some, None, Result, Ok, Err}
use Rattle.std.specs.Prelude.{IfOk, IfSome, OnOk}

pub ok_told : {T E : Type 0} (A : Type 0) (P : T → Type 0) (r : Result T E) → (A → IfOk r P) → IfOk r (λ x. A → P x)
ok_told A P (Ok x) law = law
ok_told A P (Err e) law = tt

pub some_told : {T E : Type 0} (A : Type 0) (P : T → Type 0) (r : Result (Option T) E) → (A → IfOk r (λ o. IfSome o P)) → IfOk r (λ o. IfSome o (λ x. A → P x))
some_told A P (Ok (Some x)) law = law
some_told A P (Ok None) law = tt
some_told A P (Err e) law = tt

pub on_told : {T E : Type 0} (A B : Type 0) (r : Result T E) → (A → OnOk r B) → OnOk r (A → B)
on_told A B (Ok x) law = law
on_told A B (Err e) law = tt

-- a fact leads to another
pub on_then : {T E : Type 0} (A B : Type 0) (r : Result T E) → (A → B) → OnOk r A → OnOk r B
on_then A B (Ok x) law h = law h
on_then A B (Err e) law h = tt
