-- The code of an error of reading, and the offset of the part that fails.
use Rattle.std.specs.Prelude.{ℕ, List, codes, Option, Some, None}
use Rattle.avro_cursor.specs.declared.error.ReadError.{ReadError}
use Rattle.avro_cursor.specs.declared.error.ReadError.TheVariants.{EndOfInput, InvalidNumber, InvalidBoolean, InvalidText, UnknownIndex, InvalidLength, WrongBlockSize, DuplicateKey, LimitExceeded, OutOfMemory}

-- the code of an error of reading, B1 to B10
abbrev pub read_code : ReadError → List ℕ
read_code (EndOfInput place) = codes "B1"
read_code (InvalidNumber place) = codes "B2"
read_code (InvalidBoolean place) = codes "B3"
read_code (InvalidText place) = codes "B4"
read_code (UnknownIndex place) = codes "B5"
read_code (InvalidLength place) = codes "B6"
read_code (WrongBlockSize place) = codes "B7"
read_code (DuplicateKey place) = codes "B8"
read_code LimitExceeded = codes "B9"
read_code OutOfMemory = codes "B10"

-- the offset of the part that fails; limits and memory have none
abbrev pub place_of : ReadError → Option ℕ
place_of (EndOfInput place) = Some place
place_of (InvalidNumber place) = Some place
place_of (InvalidBoolean place) = Some place
place_of (InvalidText place) = Some place
place_of (UnknownIndex place) = Some place
place_of (InvalidLength place) = Some place
place_of (WrongBlockSize place) = Some place
place_of (DuplicateKey place) = Some place
place_of LimitExceeded = None
place_of OutOfMemory = None
