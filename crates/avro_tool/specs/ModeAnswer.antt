-- What `avro history` answers of two schemas as the mode asks, in the form that is asked for.
use Rattle.std.specs.Prelude.{◌≡◌, ℕ, List, ◌++◌, Option, Some, None, codes}
use Rattle.avro_schema.specs.SeenSchema.{schema_nodes}
use Rattle.avro_schema.specs.declared.schema.Schema.{Schema}
use Rattle.avro_judge.specs.Headline.{IsRight}
use Rattle.avro_judge.specs.JudgeRanges.{JudgeLimitValues}
use Rattle.avro_judge.specs.declared.verdict.Verdict.{Verdict}
use Rattle.avro_answer.specs.HistoryAnswer.{LineAnswer}
use Rattle.avro_answer.specs.JsonAnswer.{IsHistoryLine}
use Rattle.avro_answer.specs.declared.form.Form.{Form}
use Rattle.avro_tool.specs.FoundStatus.{worse}
use Rattle.avro_tool.specs.declared.request.Mode.{Mode}

-- what a line begins with: the file of the earlier schema, and the mode if there are two
abbrev pub line_word : List ℕ → Option (List ℕ) → List ℕ
line_word file None = file
line_word file (Some mode) = file ++ (codes " " ++ mode)

-- a line of two schemas, with its status: as text, or as JSON the line of the verdict that is right of them
abbrev pub FormAnswer : Form → List ℕ → Option (List ℕ) → Schema → Schema → JudgeLimitValues → List ℕ → ℕ → Type 0
FormAnswer Form.Text file mode writer reader limits text status = LineAnswer (line_word file mode) (schema_nodes writer) (schema_nodes reader) limits text status
FormAnswer Form.Json file mode writer reader limits text status = (verdict : Verdict) × IsRight writer reader limits verdict × IsHistoryLine file mode verdict text status

-- backward, the later schema reads the data of the earlier one, and forward, the earlier one those of the later; both with a line for each
abbrev pub ModeAnswer : Form → Mode → List ℕ → Schema → Schema → JudgeLimitValues → List ℕ → ℕ → Type 0
ModeAnswer form Mode.Backward file earlier later limits text status = FormAnswer form file None earlier later limits text status
ModeAnswer form Mode.Forward file earlier later limits text status = FormAnswer form file None later earlier limits text status
ModeAnswer form Mode.Full file earlier later limits text status =
    (first second : List ℕ) × (one other : ℕ) × FormAnswer form file (Some (codes "backward")) earlier later limits first one
    × FormAnswer form file (Some (codes "forward")) later earlier limits second other × (text ≡ first ++ second) × (status ≡ worse one other)
