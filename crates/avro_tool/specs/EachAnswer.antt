-- What `avro history` answers of several schemas.
use Rattle.std.specs.Prelude.{◌≡◌, ℕ, Bool, true, false, List, [], ◌∷◌, ◌++◌}
use Rattle.avro_schema.specs.declared.schema.Schema.{Schema}
use Rattle.avro_judge.specs.JudgeRanges.{JudgeLimitValues}
use Rattle.avro_answer.specs.declared.form.Form.{Form}
use Rattle.avro_tool.specs.FoundStatus.{worse}
use Rattle.avro_tool.specs.ModeAnswer.{ModeAnswer}
use Rattle.avro_tool.specs.declared.request.Mode.{Mode}

-- the schema with which one is judged that has these after it: the next one, where that is asked for and there is one, else the last one
abbrev pub later_of : Bool → List Schema → Schema → Schema
later_of false after last = last
later_of true [] last = last
later_of true (next ∷ after) last = next

-- for each file and its schema, in order, the lines of the schema and the later one, one after another; the status is the worst of all
abbrev pub EachAnswer : Form → Mode → Bool → List (List ℕ) → List Schema → Schema → JudgeLimitValues → List ℕ → ℕ → Type 0
EachAnswer form mode is_next (file ∷ files) (earlier ∷ after) last limits text status =
    (lines others : List ℕ) × (one other : ℕ) × ModeAnswer form mode file earlier (later_of is_next after last) limits lines one
    × EachAnswer form mode is_next files after last limits others other × (text ≡ lines ++ others) × (status ≡ worse one other)
EachAnswer form mode is_next files schemas last limits text status = (text ≡ []) × (status ≡ 0)
