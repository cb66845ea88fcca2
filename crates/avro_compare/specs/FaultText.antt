-- The code of a kind of fault, and the word that answers have in its place.
use Rattle.std.specs.Prelude.{ℕ, List, codes}
use Rattle.avro_compare.specs.declared.error.FaultKind.{FaultKind}

-- the code of a kind of fault, V1 to V5
abbrev pub kind_code : FaultKind → List ℕ
kind_code FaultKind.NoMatch = codes "V1"
kind_code FaultKind.NoBranch = codes "V2"
kind_code (FaultKind.MissingField index) = codes "V3"
kind_code FaultKind.NoSymbol = codes "V4"
kind_code FaultKind.NotUtf8 = codes "V5"

-- the word that answers have in place of the code
abbrev pub kind_name : FaultKind → List ℕ
kind_name FaultKind.NoMatch = codes "NoMatch"
kind_name FaultKind.NoBranch = codes "NoBranch"
kind_name (FaultKind.MissingField index) = codes "MissingField"
kind_name FaultKind.NoSymbol = codes "NoSymbol"
kind_name FaultKind.NotUtf8 = codes "NotUtf8"
