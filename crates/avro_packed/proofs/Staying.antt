-- What an output had stays in front.
use Rattle.std.proofs.Common.{◌≡◌, ℕ, List, ◌++◌, sym, subst, Bool, true, false, if◌then◌else◌}
use Rattle.std.specs.Prelude.{Result, Ok, Err, OnOk, OnErr}
use Rattle.avro_binary.specs.Growing.{grows_on}
use Rattle.avro_binary.specs.Outputs.{Grows}

-- by what was appended
pub grows_by : (old new bytes : List ℕ) → new ≡ old ++ bytes → Grows old new
grows_by old new bytes added = record { more = bytes; grown = added }

-- where a call appends or leaves it as it was
pub stays_by : {T E : Type 0} (r : Result T E) (old new bytes : List ℕ) → OnOk r (new ≡ old ++ bytes) → OnErr r (new ≡ old) → (front : List ℕ) → Grows front old → Grows front new
stays_by (Ok u) old new bytes added same front kept = grows_on front old new kept (grows_by old new bytes added)
stays_by (Err e) old new bytes added same front kept = subst (λ (l : List ℕ). Grows front l) (sym same) kept

pub stays_if : (b : Bool) (old new bytes : List ℕ) → new ≡ (if b then old ++ bytes else old) → (front : List ℕ) → Grows front old → Grows front new
stays_if true old new bytes added front kept = grows_on front old new kept (grows_by old new bytes added)
stays_if false old new bytes added front kept = subst (λ (l : List ℕ). Grows front l) (sym added) kept
