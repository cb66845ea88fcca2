-- How contracts see an error of reading.
use Rattle.std.specs.Prelude.{◌≡◌, Option, Some, None, Result, Ok, Err}
use Rattle.avro_cursor.specs.Fault.{ReadFault, end_of_input, invalid_number, invalid_boolean, invalid_text, unknown_index, invalid_length, wrong_block_size, duplicate_key, limit_exceeded}
use Rattle.avro_cursor.specs.declared.error.ReadError.{ReadError}
use Rattle.avro_cursor.specs.declared.error.ReadError.TheVariants.{EndOfInput, InvalidNumber, InvalidBoolean, InvalidText, UnknownIndex, InvalidLength, WrongBlockSize, DuplicateKey, LimitExceeded, OutOfMemory}

-- the fault of the bytes that an error reports; none if memory ran out
abbrev pub read_fault : ReadError → Option ReadFault
read_fault (EndOfInput place) = Some (end_of_input place)
read_fault (InvalidNumber place) = Some (invalid_number place)
read_fault (InvalidBoolean place) = Some (invalid_boolean place)
read_fault (InvalidText place) = Some (invalid_text place)
read_fault (UnknownIndex place) = Some (unknown_index place)
read_fault (InvalidLength place) = Some (invalid_length place)
read_fault (WrongBlockSize place) = Some (wrong_block_size place)
read_fault (DuplicateKey place) = Some (duplicate_key place)
read_fault LimitExceeded = Some limit_exceeded
read_fault OutOfMemory = None

-- a claim that is made only if memory did not run out
abbrev pub UnlessOutOfMemory : {A : Type 0} → Result A ReadError → Type 0 → Type 0
UnlessOutOfMemory (Err OutOfMemory) P = Unit {0}
UnlessOutOfMemory r P = P

-- the result is an error that reports this fault
abbrev pub Reports : {A : Type 0} → Result A ReadError → ReadFault → Type 0
Reports (Ok x) fault = ⊥
Reports (Err e) fault = read_fault e ≡ Some fault
