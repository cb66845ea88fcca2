-- Numbers that are cut, and what grows after what is held.
use Rattle.std.proofs.Common.{arith, ◌≡◌, ℕ, ◌<◌, ◌≤◌, ℤ, List, ◌++◌, length, drop, sym, ap, ◌∙◌, ◌⊎◌}
use Rattle.std.proofs.lemmas.List.{drop-append-le}
use Rattle.avro_zigzag.specs.Number.{SpellsLong}
use Rattle.avro_zigzag.specs.NumberFault.{NumberFails, LongFails}
use Rattle.avro_zigzag.specs.declared.VarError.TheVariants.{EndOfInput, NotShortest, OutOfRange}
use Rattle.avro_zigzag.specs.declared.VarError.{VarError}
use Rattle.avro_zigzag.proofs.public.Faults.{groups-longer}
use Rattle.avro_file.specs.Filled.{GrowsBy}

pub cut-short : (bytes : List ℕ) → LongFails bytes EndOfInput → length bytes < 10
cut-short bytes (NumberFails.ends go short) = short

pub long_fault : (bytes : List ℕ) (e : VarError) → LongFails bytes e → (e ≡ EndOfInput) ⊎ (e ≡ OutOfRange)
long_fault bytes e fails = grind arith

-- a long spelling is no fault
pub not_short : (bytes : List ℕ) (e : VarError) → e ≡ NotShortest → LongFails bytes e → ⊥
not_short bytes e is fails = grind (arith, long_fault)

-- a number goes past bytes in which it is cut
pub cut-longer : (v : ℤ) (bytes more number rest : List ℕ) → LongFails bytes EndOfInput → SpellsLong v number → bytes ++ more ≡ number ++ rest
    → length bytes < length number
cut-longer v bytes more number rest (NumberFails.ends go short) spelled e = groups-longer bytes number rest more go spelled.groups (sym e)

-- what stands after an offset goes on in what has grown
pub grown-behind : {I : Type 0} (gives : I → List ℕ → I → Type 0) (a b : I) (old new : List ℕ) (at : ℕ) (p : GrowsBy gives a b old new) → at ≤ length old
    → drop at new ≡ drop at old ++ p.bytes
grown-behind gives a b old new at p inside = ap (drop at) p.grown ∙ drop-append-le at old p.bytes inside
