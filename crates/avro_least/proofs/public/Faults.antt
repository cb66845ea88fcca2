-- What holds of the fault of a result, where it is one.
use Rattle.std.proofs.Common.{◌≡◌, refl, ℕ, ◌∷◌, Option, Some, None, Result, Ok, Err}
use Rattle.avro_schema.specs.Node.{FieldNode}
use Rattle.avro_compare.specs.Fault.{ResolutionFault, fault_in}
use Rattle.avro_compare.specs.Resolve.{Resolved, inside, result_map, both, with_sourced, Sourced}
use Rattle.avro_certificate.proofs.public.Successes.{Succeeds}

-- a result, the fault of which is such a one
abbrev pub Blames : {A : Type 0} → (ResolutionFault → Type 0) → Result A ResolutionFault → Type 0
Blames T (Ok a) = Unit {0}
Blames T (Err e) = T e

pub blames_good : {A : Type 0} (T : ResolutionFault → Type 0) (x : Result A ResolutionFault) → Succeeds x → Blames T x
blames_good T (Ok a) h = tt
blames_good T (Err e) h = absurd h

pub blames_map : {A B : Type 0} (T : ResolutionFault → Type 0) (f : A → B) (x : Result A ResolutionFault) → Blames T x → Blames T (result_map f x)
blames_map T f (Ok a) h = tt
blames_map T f (Err e) h = h

pub blames_both : {A B C : Type 0} (T : ResolutionFault → Type 0) (f : A → B → C) (x : Result A ResolutionFault) (y : Result B ResolutionFault)
    → Blames T x → Blames T y → Blames T (both f x y)
blames_both T f (Ok a) (Ok b) h k = tt
blames_both T f (Ok a) (Err e) h k = k
blames_both T f (Err e) y h k = h

pub blames_inside : {A : Type 0} (T U : ResolutionFault → Type 0) (step : ℕ) (x : Result A ResolutionFault) → ((e : ResolutionFault) → T e → U (fault_in step e))
    → Blames T x → Blames U (inside step x)
blames_inside T U step (Ok a) up h = tt
blames_inside T U step (Err e) up h = up e h

pub blames_more : {A : Type 0} (T U : ResolutionFault → Type 0) (x : Result A ResolutionFault) → ((e : ResolutionFault) → T e → U e) → Blames T x → Blames U x
blames_more T U (Ok a) up h = tt
blames_more T U (Err e) up h = up e h

-- a field
pub blames_sourced : (T : ResolutionFault → Type 0) (o : Option FieldNode) (index : ℕ) (f : FieldNode → Resolved) (later : Result Sourced ResolutionFault)
    → ((g : FieldNode) → o ≡ Some g → Blames T (inside index (f g))) → Blames T later → Blames T (with_sourced o index f later)
blames_sourced T None index f later here h = h
blames_sourced T (Some g) index f later here h = blames_both T (λ v found. (index, v) ∷ found) (inside index (f g)) later (here g refl) h

-- P, where the result is a fault
abbrev pub OnErr : {A : Type 0} → Result A ResolutionFault → Type 0 → Type 0
OnErr x P = Blames (λ e. P) x

pub on_err : {A : Type 0} (x : Result A ResolutionFault) (P : Type 0) → P → OnErr x P
on_err (Ok a) P p = tt
on_err (Err e) P p = p

pub on_mono : {A : Type 0} (x : Result A ResolutionFault) (P Q : Type 0) → (P → Q) → OnErr x P → OnErr x Q
on_mono x P Q f h = blames_more (λ e. P) (λ e. Q) x (λ e. f) h

pub on_inside : {A : Type 0} (step : ℕ) (x : Result A ResolutionFault) (P : Type 0) → OnErr x P → OnErr (inside step x) P
on_inside step x P h = blames_inside (λ e. P) (λ e. P) step x (λ e p. p) h

pub on_sourced : (o : Option FieldNode) (index : ℕ) (resolve : FieldNode → Resolved) (later : Result Sourced ResolutionFault) (P : Type 0)
    → ((f : FieldNode) → o ≡ Some f → OnErr (resolve f) P) → OnErr later P → OnErr (with_sourced o index resolve later) P
on_sourced o index resolve later P here h = blames_sourced (λ e. P) o index resolve later (λ f is. on_inside index (resolve f) P (here f is)) h
