-- What is answered of the texts of schemas and of several encoded data: a line for each, and a status.
use Rattle.std.specs.Prelude.{◌≡◌, ℕ, Bool, true, false, if◌then◌else◌, List, ◌++◌, codes, flat_map, Option}
use Rattle.std.specs.List.{AllZip, list_all}
use Rattle.avro_schema.specs.Node.{Node}
use Rattle.avro_schema.specs.Fits.{LimitValues}
use Rattle.avro_answer.specs.ReadAnswer.{Found, datum, broken, unresolved, IsAllFound, IsReaderReadAs, datum_text, nodes_for}
use Rattle.avro_answer.specs.ReadText.{IsReadAs}
use Rattle.avro_answer.specs.Texts.{bytes_fault_text, fault_text}
use Rattle.avro_answer.specs.declared.form.Form.{Form}

-- the line of JSON of what is found in data: a datum with the length of its encoding, or the fault
abbrev pub found_line : List Node → Found → List ℕ
found_line nodes (datum u len) = datum_text Form.Json nodes u len
found_line nodes (broken fault) = codes "{\"fault\":\"" ++ bytes_fault_text fault ++ codes "\"}\n"
found_line nodes (unresolved fault) = codes "{\"fault\":\"" ++ fault_text fault ++ codes "\"}\n"

-- what is found is a datum
abbrev pub is_datum : Found → Bool
is_datum (datum u len) = true
is_datum (broken fault) = false
is_datum (unresolved fault) = false

-- 0 if each is a datum, otherwise 1
abbrev pub all_status : List Found → ℕ
all_status all = if list_all is_datum all then 0 else 1

-- What is answered of schemas and of several data: a line for what is found in each, in order, and the status of all.
pub record LinesRead (writer : List Node) (reader : Option (List Node)) (limits : LimitValues) (skip : ℕ) (several : List (List ℕ)) (text : List ℕ) (status : ℕ) : Type 0 where
  pub all : List Found
  pub each : AllZip (IsAllFound writer reader limits skip) several all
  pub told : text ≡ flat_map (found_line (nodes_for writer reader)) all
  pub status_is : status ≡ all_status all

-- What is answered of texts and of several data: the texts declare schemas and are not too long, and it is the answer of those.
pub record ReadsAnswer (writer : List ℕ) (reader : Option (List ℕ)) (limits : LimitValues) (skip : ℕ) (several : List (List ℕ)) (text : List ℕ) (status : ℕ) : Type 0 where
  pub written : List Node
  pub read : Option (List Node)
  pub declares_written : IsReadAs writer written
  pub declares_read : IsReaderReadAs reader read
  pub answered : LinesRead written read limits skip several text status
