-- How a datum is passed at once.
use Rattle.std.specs.Prelude.{◌≡◌, List, Option, None, Result, IfSome, IfOk}
use Rattle.std.specs.Result.{IfErr}
use Rattle.avro_schema.specs.Node.{Node}
use Rattle.avro_schema.specs.Value.{Value}
use Rattle.avro_cursor.specs.Breaks.{BreaksWithin}
use Rattle.avro_binary.specs.CursorReads.{FindsValue, ReportsFault}
use Rattle.avro_cursor.specs.CursorValue.{CursorValue}
use Rattle.avro_binary.specs.Making.{Made}
use Rattle.avro_cursor.specs.declared.error.ReadError.{ReadError}

-- A call that passes a datum of the node and returns what it is made into, or returns none and has passed nothing.
pub record PassesAtOnce {S R : Type 0} (keeps : S → S → Type 0) (stands : S → R → Value → Type 0) (nodes : List Node) (n : Node) (maker made : S) (before after : CursorValue) (result : Result (Option R) ReadError) : Type 0 where
  pub found : IfOk result (λ o. IfSome o (λ r. (v : Value) × FindsValue nodes n before after v × Made keeps stands maker made r v))
  pub none : IfOk result (λ o. o ≡ None → (after ≡ before) × keeps maker made)
  pub refused : IfErr result (ReportsFault (BreaksWithin nodes before.depth before.nodes before.blob n) before)
