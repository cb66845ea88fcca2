-- The headline from texts to a text: what a yes of `judge` says of the answer of `avro read`.
use Rattle.std.specs.Prelude.{◌≡◌, ℕ, true, List, ◌++◌, length, Result, Ok, IfOk}
use Rattle.std.specs.Result.{IfErr}
use Rattle.avro_schema.specs.Value.{Value}
use Rattle.avro_schema.specs.Node.{Node, root_of}
use Rattle.avro_schema.specs.Fits.{LimitValues, is_within}
use Rattle.avro_schema_json.specs.DeclaredText.{DeclaresText}
use Rattle.avro_cursor.specs.Encoding.{Encodes}
use Rattle.avro_compare.specs.Resolve.{resolve_root}
use Rattle.avro_judge.specs.JudgeRanges.{JudgeLimitValues}
use Rattle.avro_answer.specs.JudgeAnswer.{JudgeAnswer, IsYes}
use Rattle.avro_answer.specs.ReadAnswer.{datum_text}
use Rattle.avro_answer.specs.declared.answer.Answer.{Answer}
use Rattle.avro_answer.specs.declared.form.Form.{Form}
use Rattle.avro_answer.specs.declared.refusal.Refusal.{Refusal}

-- status 0, with the display of what resolution gives of this datum, and this length
abbrev pub IsReadWith : List Node → List Node → Form → Value → ℕ → List ℕ → ℕ → Type 0
IsReadWith writer reader form v len text status =
    (u : Value) × (resolve_root writer reader v ≡ Ok u) × (text ≡ datum_text form reader u len) × (status ≡ 0)

-- Where a yes is an answer to two texts, and data hold, after a number of bytes, an encoding of a datum within limits of the
-- schema that the first declares, whatever follows it, the answer to the data is what resolution gives of that datum, and
-- that encoding's length; only memory may run out.
abbrev pub ReadsAfterYes : List ℕ → List ℕ → LimitValues → Form → ℕ → List ℕ → Result Answer Refusal → Type 0
ReadsAfterYes writer reader limits form skip bytes result =
    (judging : JudgeLimitValues) (text : List ℕ) (status : ℕ) → JudgeAnswer writer reader judging text status → IsYes text status
    → (written read : List Node) → DeclaresText writer written → DeclaresText reader read
    → (v : Value) (skipped front rest : List ℕ) → Encodes written (root_of written) v front → is_within limits v ≡ true
    → length skipped ≡ skip → bytes ≡ skipped ++ (front ++ rest)
    → IfOk result (λ a. IsReadWith written read form v (length front) a.text.items a.status) × IfErr result (λ e. e ≡ Refusal.OutOfMemory)
