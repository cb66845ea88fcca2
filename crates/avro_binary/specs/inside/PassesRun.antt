-- How fields next to one another are passed at once, where their data take no bytes.
use Rattle.std.specs.Prelude.{◌≡◌, ◌≤◌, ℕ, true, List, ◌∷◌, ◌++◌, Some, drop, slice_get}
use Rattle.avro_schema.specs.Empty.{are_empty}
use Rattle.avro_schema.specs.Fits.{fields_fit}
use Rattle.avro_schema.specs.Node.{Node, node_at}
use Rattle.avro_schema.specs.Runs.{StartWithEmpties}
use Rattle.avro_schema.specs.Seen.{values_from}
use Rattle.avro_schema.specs.Value.{Value, values_depth, values_size}
use Rattle.avro_schema.specs.declared.runs.EmptyFields.{EmptyFields}
use Rattle.avro_cursor.specs.Breaks.{BreaksWithin}
use Rattle.avro_binary.specs.CursorReads.{ReportsFault}
use Rattle.avro_cursor.specs.CursorValue.{CursorValue}
use Rattle.avro_cursor.specs.declared.error.ReadError.{ReadError}
use Rattle.avro_cursor.specs.CountsAgain.{CountsAgain}

-- each entry tells of the fields from its index on
abbrev pub TellOfRuns : List Node → List ℕ → List EmptyFields → Type 0
TellOfRuns nodes ids runs = (k : ℕ) (run : EmptyFields) → slice_get runs k ≡ Some run → StartWithEmpties nodes (drop k ids) run

-- The cursor has passed data without bytes of the fields of some ids, within what was left.
pub record FindsEmpties (nodes : List Node) (ids : List ℕ) (before after : CursorValue) (vs : List Value) : Type 0 where
  pub fitting : fields_fit nodes ids (values_from vs) ≡ true
  pub empty : are_empty (values_from vs) ≡ true
  pub deep : values_depth (values_from vs) ≤ before.depth
  pub counted : CountsAgain before (values_size (values_from vs)) after

-- Of fields whose data take no bytes some can be passed, and the next reports a fault.
pub record RefusesEmpties (nodes : List Node) (ids : List ℕ) (before : CursorValue) (e : ReadError) : Type 0 where
  pub passed : List ℕ
  pub field : ℕ
  pub after : List ℕ
  pub ids_are : ids ≡ passed ++ field ∷ after
  pub vs : List Value
  pub then_at : CursorValue
  pub found : FindsEmpties nodes passed before then_at vs
  pub reported : ReportsFault (BreaksWithin nodes then_at.depth then_at.nodes then_at.blob (node_at nodes field)) then_at e
