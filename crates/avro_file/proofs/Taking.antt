-- Takes go together, after what is held.
use Rattle.std.proofs.Common.{◌≡◌, ◌≢◌, ℕ, ◌+◌, ◌-◌, ◌≤◌, max, List, ◌++◌, length, ap, ◌∙◌, arith, append_assoc, length-append}
use Rattle.avro_file.specs.declared.error.CopyError.{CopyError}
use Rattle.avro_file.specs.declared.input.PartError.{PartError}
use Rattle.avro_file.specs.Filled.{GrowsBy, TakesAtMost, UnlessDevice}

pub GrowsBy-chain : {I : Type 0} (gives : I → List ℕ → I → Type 0)
    → ((s t u : I) (front back : List ℕ) → gives s front t → gives t back u → gives s (front ++ back) u)
    → (a b c : I) (old mid new : List ℕ) → GrowsBy gives a b old mid → GrowsBy gives b c mid new → GrowsBy gives a c old new
GrowsBy-chain gives chain a b c old mid new p q = grind (arith, append_assoc)

-- a call after another
pub TakesAtMost-behind : {I : Type 0} (gives : I → List ℕ → I → Type 0)
    → ((s t u : I) (front back : List ℕ) → gives s front t → gives t back u → gives s (front ++ back) u)
    → (a b c : I) (old mid : List ℕ) (room most : ℕ) → GrowsBy gives a b old mid → TakesAtMost gives b c room → length mid + room ≤ length old + most
    → TakesAtMost gives a c most
TakesAtMost-behind gives chain a b c old mid room most p q fits =
    let long : length mid ≡ length old + length p.bytes = ap length p.grown ∙ length-append old p.bytes in
    let sum : length (p.bytes ++ q.bytes) ≡ length p.bytes + length q.bytes = length-append p.bytes q.bytes in
    record {
      bytes = p.bytes ++ q.bytes;
      taken = chain a b c p.bytes q.bytes p.taken q.taken;
      few = omega (arith, long, sum, fits, q.few);
    }

pub TakesAtMost-later : {I : Type 0} (gives : I → List ℕ → I → Type 0)
    → ((s t u : I) (front back : List ℕ) → gives s front t → gives t back u → gives s (front ++ back) u)
    → (a b c : I) (old mid : List ℕ) (limit : ℕ) → GrowsBy gives a b old mid → TakesAtMost gives b c (limit - length mid)
    → length mid ≤ max (length old) limit → TakesAtMost gives a c (limit - length old)
TakesAtMost-later gives chain a b c old mid limit p q fits =
    TakesAtMost-behind gives chain a b c old mid (limit - length mid) (limit - length old) p q (omega (arith, fits))

-- what is said of a call whose bytes are not lost
pub UnlessDevice-then : {P Q : Type 0} (e : PartError) → UnlessDevice e P → (P → Q) → UnlessDevice e Q
UnlessDevice-then e p go = grind arith

pub unless_failed : {P : Type 0} (e : PartError) (r : CopyError) → (e ≡ PartError.Device → r ≡ CopyError.InputFailed) → UnlessDevice e P
    → r ≢ CopyError.InputFailed → P
unless_failed e r same p other = grind arith

-- what is held was taken
pub TakesAtMost-from_grown : {I : Type 0} (gives : I → List ℕ → I → Type 0) (a b : I) (old new : List ℕ) (limit : ℕ) → GrowsBy gives a b old new
    → length new ≤ max (length old) limit → TakesAtMost gives a b (limit - length old)
TakesAtMost-from_grown gives a b old new limit p fits = grind (arith, length-append)
