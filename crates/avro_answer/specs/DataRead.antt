-- What reading encoded data returns.
use Rattle.std.specs.Prelude.{◌≡◌, ℕ, List, Option, Some, option_map}
use Rattle.avro_schema.specs.Value.{Value}
use Rattle.avro_schema.specs.Node.{Node}
use Rattle.avro_schema.specs.Fits.{LimitValues}
use Rattle.avro_cursor.specs.Seen.{read_fault}
use Rattle.avro_compare.specs.Seen.{fault_of}
use Rattle.avro_resolve.specs.declared.error.ReadResolveError.{ReadResolveError}
use Rattle.avro_answer.specs.ReadAnswer.{Found, datum, broken, unresolved, IsAllFound, nodes_for, datum_text}
use Rattle.avro_answer.specs.Texts.{reading_text, fault_text}
use Rattle.avro_answer.specs.declared.form.Form.{Form}

-- what an error says is found, unless memory ran out
abbrev pub fault_found : ReadResolveError → Option Found
fault_found (ReadResolveError.Read e) = option_map broken (read_fault e)
fault_found (ReadResolveError.Resolve f) = Some (unresolved (fault_of f))

-- the text of an error
abbrev pub error_text : ReadResolveError → List ℕ
error_text (ReadResolveError.Read e) = reading_text e
error_text (ReadResolveError.Resolve f) = fault_text (fault_of f)

-- a datum is found, and this is its text
pub record IsDatumTold (writer : List Node) (reader : Option (List Node)) (limits : LimitValues) (form : Form) (skip : ℕ) (bytes text : List ℕ) : Type 0 where
  pub value : Value
  pub len : ℕ
  pub is_found : IsAllFound writer reader limits skip bytes (datum value len)
  pub told : text ≡ datum_text form (nodes_for writer reader) value len
