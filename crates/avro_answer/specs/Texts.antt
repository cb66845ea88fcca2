-- The texts of faults, causes and limits, in bytes of ASCII. The forms are this project's own, and no part of the standard.
use Rattle.std.specs.Prelude.{ℕ, List, [], ◌∷◌, ◌++◌, codes, flat_map, Option, Some, None}
use Rattle.avro_cursor.specs.Fault.{ReadFault, end_of_input, invalid_number, invalid_boolean, invalid_text, unknown_index, invalid_length, wrong_block_size, duplicate_key, limit_exceeded}
use Rattle.avro_cursor.specs.Seen.{read_fault}
use Rattle.avro_cursor.specs.declared.error.ReadError.{ReadError}
use Rattle.avro_compare.specs.Fault.{FaultCause, no_match, no_branch, missing_field_at, no_symbol, not_utf8, ResolutionFault}
use Rattle.avro_certificate.specs.CertificateText.{decimal}
use Rattle.avro_judge.specs.declared.verdict.Cause.{Cause}

-- the text of a fault's kind; a missing field is the reader's, by its index
abbrev pub kind_text : FaultCause → List ℕ
kind_text no_match = codes "NoMatch"
kind_text no_branch = codes "NoBranch"
kind_text (missing_field_at k) = codes "MissingField " ++ decimal k
kind_text no_symbol = codes "NoSymbol"
kind_text not_utf8 = codes "NotUtf8"

-- a step down a datum
abbrev pub step_text : ℕ → List ℕ
step_text k = 47 ∷ decimal k

-- the path of a fault, its first step first
abbrev pub path_text : List ℕ → List ℕ
path_text [] = codes "/"
path_text (k ∷ ks) = flat_map step_text (k ∷ ks)

-- a fault: its kind, and its path
abbrev pub fault_text : ResolutionFault → List ℕ
fault_text f = kind_text f.cause ++ codes " at " ++ path_text f.path

-- the code of a fault of bytes, with the offset of the part that fails, if there is one
abbrev pub bytes_fault_text : ReadFault → List ℕ
bytes_fault_text (end_of_input place) = codes "B1 at " ++ decimal place
bytes_fault_text (invalid_number place) = codes "B2 at " ++ decimal place
bytes_fault_text (invalid_boolean place) = codes "B3 at " ++ decimal place
bytes_fault_text (invalid_text place) = codes "B4 at " ++ decimal place
bytes_fault_text (unknown_index place) = codes "B5 at " ++ decimal place
bytes_fault_text (invalid_length place) = codes "B6 at " ++ decimal place
bytes_fault_text (wrong_block_size place) = codes "B7 at " ++ decimal place
bytes_fault_text (duplicate_key place) = codes "B8 at " ++ decimal place
bytes_fault_text limit_exceeded = codes "B9"

-- the same of a fault that may be there; that memory ran out is no fault of the bytes
abbrev pub bytes_fault_or : Option ReadFault → List ℕ
bytes_fault_or (Some fault) = bytes_fault_text fault
bytes_fault_or None = codes "B10"

-- the same of an error of reading
abbrev pub reading_text : ReadError → List ℕ
reading_text e = bytes_fault_or (read_fault e)

-- why two schemas are undecided
abbrev pub cause_text : Cause → List ℕ
cause_text Cause.Pairs = codes "Pairs"
cause_text Cause.Size = codes "Size"
cause_text Cause.Depth = codes "Depth"
