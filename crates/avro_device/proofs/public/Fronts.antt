-- What was put is a beginning of what was to be put.
use Rattle.std.proofs.Common.{◌≡◌, refl, ℕ, List, [], ◌++◌, take, drop, sym, ap, ◌∙◌, append_assoc, append-nil}
use Rattle.std.proofs.lemmas.List.{take-append-drop}
use Rattle.std.specs.Prelude.{Result, Ok, Err, OnErr}
use Rattle.avro_device.specs.PutFront.{PutsFrontOf}

-- what was put in one more put
pub PutsFrontOf-more : {O : Type 0} (keeps : O → List ℕ → O → Type 0)
    → ((s t u : O) (front back : List ℕ) → keeps s front t → keeps t back u → keeps s (front ++ back) u)
    → (a b c : O) (bytes front rest : List ℕ) (n : ℕ) → keeps a front b → bytes ≡ front ++ rest → keeps b (take n rest) c
    → (others : List ℕ) → others ≡ drop n rest → keeps a (front ++ take n rest) c × (bytes ≡ (front ++ take n rest) ++ others)
PutsFrontOf-more keeps chain a b c bytes front rest n k e m others o = (
  chain a b c front (take n rest) k m,
  e ∙ ap (λ r. front ++ r) (sym (take-append-drop n rest)) ∙ sym (append_assoc front (take n rest) (drop n rest)) ∙ ap (λ r. (front ++ take n rest) ++ r) (sym o),
)

pub PutsFrontOf-failed : {O : Type 0} (keeps : O → List ℕ → O → Type 0)
    → ((s t u : O) (front back : List ℕ) → keeps s front t → keeps t back u → keeps s (front ++ back) u)
    → (a b c : O) (bytes front rest : List ℕ) → keeps a front b → bytes ≡ front ++ rest → keeps b [] c → PutsFrontOf keeps a c bytes
PutsFrontOf-failed keeps chain a b c bytes front rest k e m = record {
  front = front ++ [];
  later = rest;
  kept = chain a b c front [] k m;
  split = e ∙ ap (λ f. f ++ rest) (sym (append-nil front));
}

-- a call that puts nothing
pub PutsFrontOf-none : {O T E : Type 0} (keeps : O → List ℕ → O → Type 0) → ((a : O) → keeps a [] a) → (a : O) (bytes : List ℕ) (r : Result T E)
    → OnErr r (PutsFrontOf keeps a a bytes)
PutsFrontOf-none keeps none a bytes (Ok x) = tt
PutsFrontOf-none keeps none a bytes (Err e) = record { front = []; later = bytes; kept = none a; split = refl }
