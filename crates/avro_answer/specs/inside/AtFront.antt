-- What is found at the front of bytes.
use Rattle.std.specs.Prelude.{◌≡◌, ℕ, List, [], ◌∷◌, ◌++◌, codes, Option, Some, Result, Ok, Err}
use Rattle.avro_schema.specs.Node.{Node, root_of}
use Rattle.avro_schema.specs.Value.{Value}
use Rattle.avro_schema.specs.Fits.{LimitValues}
use Rattle.avro_resolve.specs.declared.error.ReadResolveError.{ReadResolveError}
use Rattle.avro_answer.specs.DataRead.{fault_found, IsDatumTold}
use Rattle.avro_display.specs.DisplayTree.{display_text}
use Rattle.avro_display.specs.declared.put_error.PutError.{PutError}
use Rattle.avro_answer.specs.ReadAnswer.{Found, datum, IsAllFound, found_text, found_status, nodes_for}
use Rattle.avro_answer.specs.ReadsAnswer.{found_line, all_status}
use Rattle.avro_answer.specs.declared.data_error.DataError.{DataError}
use Rattle.avro_answer.specs.declared.form.Form.{Form}

-- a datum is found at the front with an encoding of this length, and this is its display
pub record IsDisplayed (writer : List Node) (reader : Option (List Node)) (limits : LimitValues) (bytes : List ℕ) (len : ℕ) (display : List ℕ) : Type 0 where
  pub value : Value
  pub is_found : IsAllFound writer reader limits 0 bytes (datum value len)
  pub told : display ≡ display_text (nodes_for writer reader) (root_of (nodes_for writer reader)) value

-- what was put of a result of putting, as one of data
abbrev pub of_put : {A : Type 0} → Result A PutError → Result A DataError
of_put (Ok x) = Ok x
of_put (Err e) = Err (DataError.Put e)

-- a fault is found, and this is its line with the status of a refusal
pub record IsRefusalTold (error : ReadResolveError) (text : List ℕ) (status : ℕ) : Type 0 where
  pub found : Found
  pub says : fault_found error ≡ Some found
  pub told : (form : Form) (nodes : List Node) → text ≡ found_text form (codes "data") nodes found
  pub status_is : status ≡ found_status found

-- the same of a line of JSON among several
pub record IsFaultTold (error : ReadResolveError) (text : List ℕ) (status : ℕ) : Type 0 where
  pub found : Found
  pub says : fault_found error ≡ Some found
  pub told : (nodes : List Node) → text ≡ found_line nodes found
  pub status_is : status ≡ all_status (found ∷ [])

-- what is found in data, by its line
pub record IsLineTold (writer : List Node) (reader : Option (List Node)) (limits : LimitValues) (skip : ℕ) (bytes text : List ℕ) (status : ℕ) : Type 0 where
  pub found : Found
  pub is_found : IsAllFound writer reader limits skip bytes found
  pub told : text ≡ found_line (nodes_for writer reader) found
  pub status_is : status ≡ all_status (found ∷ [])

-- such a line is put behind the bytes that were there
abbrev pub IsLinePut : List Node → Option (List Node) → LimitValues → ℕ → List ℕ → List ℕ → List ℕ → ℕ → Type 0
IsLinePut writer reader limits skip bytes from to status = (line : List ℕ) × IsLineTold writer reader limits skip bytes line status × (to ≡ from ++ line)

-- the text of the datum at the front is put behind the bytes that were there
abbrev pub AppendsDatum : List Node → Option (List Node) → LimitValues → Form → List ℕ → List ℕ → List ℕ → Type 0
AppendsDatum writer reader limits form bytes from to = (text : List ℕ) × IsDatumTold writer reader limits form 0 bytes text × (to ≡ from ++ text)
