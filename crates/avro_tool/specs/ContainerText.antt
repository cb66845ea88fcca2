-- The line that reports a container file as refused: a code, the place in the file, and the reason.
use Rattle.std.specs.Prelude.{ℕ, List, [], ◌++◌, codes}
use Rattle.avro_zigzag.specs.NumberFault.{number_code}
use Rattle.avro_compare.specs.Seen.{fault_of}
use Rattle.avro_certificate.specs.CertificateText.{decimal}
use Rattle.avro_schema_json.specs.Refusals.{schema_code}
use Rattle.avro_answer.specs.Texts.{fault_text, reading_text}
use Rattle.avro_file.specs.declared.error.CopyError.{CopyError}
use Rattle.avro_file.specs.declared.error.CountError.{CountError}
use Rattle.avro_file.specs.declared.error.LimitPlace.{LimitPlace}
use Rattle.avro_file.specs.ErrorText.{error_code, place_of}

-- the number of a block; blocks are counted from 0
abbrev pub block_text : ℕ → List ℕ
block_text block = codes " block " ++ decimal block

-- the numbers of a datum and its block; data are counted from 0 in each block
abbrev pub datum_text : ℕ → ℕ → List ℕ
datum_text block datum = codes " block " ++ decimal block ++ codes " datum " ++ decimal datum

-- a place in a file; none outside its blocks
abbrev pub place_text : LimitPlace → List ℕ
place_text LimitPlace.Header = []
place_text (LimitPlace.Block block) = block_text block
place_text (LimitPlace.Datum block datum) = datum_text block datum

-- why a count cannot be read
abbrev pub count_text : CountError → List ℕ
count_text (CountError.Invalid e) = number_code e
count_text CountError.Negative = codes "negative"

-- the reason for a container's error, after a colon, if there is one
abbrev pub reason_text : CopyError → List ℕ
reason_text (CopyError.InvalidMetadata e) = codes ": " ++ reading_text e
reason_text (CopyError.InvalidSchema e) = codes ": " ++ schema_code e
reason_text (CopyError.InvalidCount block e) = codes ": " ++ count_text e
reason_text (CopyError.InvalidDatum block datum e) = codes ": " ++ reading_text e
reason_text (CopyError.UnresolvedDatum block datum fault) = codes ": " ++ fault_text (fault_of fault)
reason_text _ = []

-- the line of a container's error: its code, place and reason, by the word that names the file
abbrev pub container_text : List ℕ → CopyError → List ℕ
container_text word e = codes "avro: " ++ word ++ codes ": " ++ error_code e ++ place_text (place_of e) ++ reason_text e ++ codes "\n"
