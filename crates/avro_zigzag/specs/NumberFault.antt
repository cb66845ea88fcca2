-- The first fault of bytes that begin with no number, looked at in turn.
use Rattle.std.specs.Prelude.{◌≡◌, ℕ, ◌+◌, ◌<◌, Bool, true, List, ◌∷◌, ◌++◌, length, nat_le, codes}
use Rattle.std.specs.List.{list_all}
use Rattle.avro_zigzag.specs.declared.VarError.{VarError}
use Rattle.avro_zigzag.specs.declared.VarError.TheVariants.{EndOfInput, NotShortest, OutOfRange}

-- bytes after each of which a number goes on
abbrev pub go_on : List ℕ → Bool
go_on bytes = list_all (nat_le 128) bytes

-- No number of at most `most` bytes, the last possible one of which is at most `top`, stands at the front.
pub data NumberFails (most top : ℕ) : List ℕ → VarError → Type 0 where
  -- no byte is left where one is looked for
  ends : {bytes : List ℕ} → go_on bytes ≡ true → length bytes < most → NumberFails most top bytes EndOfInput
  -- the last possible byte has a value that is too large, or a number goes on after it
  too_large : {bytes : List ℕ} (front rest : List ℕ) (b : ℕ) → bytes ≡ front ++ b ∷ rest → go_on front ≡ true
      → length front + 1 ≡ most → top < b → NumberFails most top bytes OutOfRange

-- a long has at most 10 bytes, and 64 bits leave 01 for the tenth
abbrev pub LongFails : List ℕ → VarError → Type 0
LongFails = NumberFails 10 1

-- an int has at most 5 bytes, and 32 bits leave 0f for the fifth
abbrev pub IntFails : List ℕ → VarError → Type 0
IntFails = NumberFails 5 15

-- the code of an error, Z1 to Z3
abbrev pub number_code : VarError → List ℕ
number_code EndOfInput = codes "Z1"
number_code NotShortest = codes "Z2"
number_code OutOfRange = codes "Z3"
