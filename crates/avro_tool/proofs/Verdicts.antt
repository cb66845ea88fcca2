-- The finding of a verdict has its status.
use Rattle.std.proofs.Common.{◌≡◌, ℕ, ◌≤◌, ◌⊎◌, inl, inr, List, Option, refl, sym, subst, arith}
use Rattle.avro_schema.specs.Node.{Node}
use Rattle.avro_schema.specs.SeenSchema.{schema_nodes}
use Rattle.avro_schema.specs.declared.schema.Schema.{Schema}
use Rattle.avro_judge.specs.Headline.{IsRight}
use Rattle.avro_judge.specs.JudgeRanges.{JudgeLimitValues}
use Rattle.avro_answer.specs.HistoryAnswer.{LineAnswer}
use Rattle.avro_answer.specs.JsonAnswer.{IsHistoryLine, IsJudgedLine}
use Rattle.avro_answer.specs.JudgeAnswer.{SchemasAnswer, StatusAnswer}
use Rattle.avro_answer.specs.declared.form.Form.{Form}
use Rattle.avro_judge.specs.declared.verdict.Verdict.{Verdict}
use Rattle.avro_tool.specs.ModeAnswer.{line_word, FormAnswer}

pub few : (s : ℕ) → (s ≡ 0) ⊎ (s ≡ 1) ⊎ (s ≡ 2) → s ≤ 2
few s (inl e) = omega (arith, e)
few s (inr (inl e)) = omega (arith, e)
few s (inr (inr e)) = omega (arith, e)

pub judged_status : (w r : List Node) (limits : JudgeLimitValues) (s t : ℕ) → StatusAnswer w r limits s → (s ≤ 2 → t ≡ s) → StatusAnswer w r limits t
judged_status w r limits s t a same = subst (StatusAnswer w r limits) (sym (same (few s a.known))) a

pub judged_answer : (w r : List Node) (limits : JudgeLimitValues) (text : List ℕ) (s t : ℕ) → SchemasAnswer w r limits text s → StatusAnswer w r limits s
    → (s ≤ 2 → t ≡ s) → SchemasAnswer w r limits text t
judged_answer w r limits text s t a told same = subst (SchemasAnswer w r limits text) (sym (same (few s told.known))) a

pub judged_line : (w r : List Node) (limits : JudgeLimitValues) (verdict : Verdict) (line : List ℕ) (s t : ℕ) → IsJudgedLine w verdict line s → StatusAnswer w r limits s
    → (s ≤ 2 → t ≡ s) → IsJudgedLine w verdict line t
judged_line w r limits verdict line s t a told same = subst (IsJudgedLine w verdict line) (sym (same (few s told.known))) a

in_form : (form : Form) (file : List ℕ) (mode : Option (List ℕ)) (writer reader : Schema) (limits : JudgeLimitValues) (verdict : Verdict) (text : List ℕ) (s : ℕ)
    → (form ≡ Form.Text → LineAnswer (line_word file mode) (schema_nodes writer) (schema_nodes reader) limits text s)
    → (form ≡ Form.Json → IsHistoryLine file mode verdict text s) → IsRight writer reader limits verdict
    → FormAnswer form file mode writer reader limits text s
in_form Form.Text file mode writer reader limits verdict text s as_text as_json right = as_text refl
in_form Form.Json file mode writer reader limits verdict text s as_text as_json right = (verdict, right, as_json refl)

pub form_answer : (form : Form) (file : List ℕ) (mode : Option (List ℕ)) (writer reader : Schema) (limits : JudgeLimitValues) (verdict : Verdict) (text : List ℕ) (s t : ℕ)
    → (form ≡ Form.Text → LineAnswer (line_word file mode) (schema_nodes writer) (schema_nodes reader) limits text s)
    → (form ≡ Form.Json → IsHistoryLine file mode verdict text s) → IsRight writer reader limits verdict
    → StatusAnswer (schema_nodes writer) (schema_nodes reader) limits s → (s ≤ 2 → t ≡ s)
    → FormAnswer form file mode writer reader limits text t
form_answer form file mode writer reader limits verdict text s t as_text as_json right told same =
    subst (λ n. FormAnswer form file mode writer reader limits text n) (sym (same (few s told.known)))
    (in_form form file mode writer reader limits verdict text s as_text as_json right)
