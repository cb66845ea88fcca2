-- What answers say of all schemas that the texts declare: each declares one.
use Rattle.std.proofs.Common.{◌≡◌, ℕ, true, List, Some, sym, ◌∙◌, ap, subst}
use Rattle.avro_schema.specs.Node.{Node}
use Rattle.avro_schema.specs.WellFormed.{is_schema}
use Rattle.avro_schema_json.specs.DeclaredSchema.{DeclaresSchema, declared}
use Rattle.avro_schema_json.specs.DeclaredText.{DeclaresText}
use Rattle.avro_certificate.specs.Compatible.{AreCompatible}
use Rattle.avro_certificate.proofs.public.Resolving.{closed_compatible}
use Rattle.avro_judge.specs.JudgeRanges.{JudgeLimitValues}
use Rattle.avro_answer.specs.ConfirmAnswer.{ConfirmAnswer, IsConfirmed}
use Rattle.avro_answer.specs.JudgeAnswer.{JudgeAnswer, IsYes}
use Rattle.serde_json.specs.Data.{Data}

of_some : {A : Type 0} (x y : A) → Some x ≡ Some y → x ≡ y
of_some x y h = cc

one_schema : (t u : Data) (a b : List Node) → t ≡ u → DeclaresSchema t a → DeclaresSchema u b → a ≡ b
one_schema t u a b same g h = of_some a b (sym g ∙ (ap declared same ∙ h))

pub one_text : (text : List ℕ) (a b : List Node) → DeclaresText text a → DeclaresText text b → a ≡ b
one_text text a b g h = one_schema g.0 h.0 a b (of_some g.0 h.0 (sym g.1.1 ∙ h.1.1)) g.2 h.2

are_compatible : (a b c d : List Node) → a ≡ c → b ≡ d → AreCompatible a b → AreCompatible c d
are_compatible a b c d g h k = subst (λ n. AreCompatible c n) h (subst (λ n. AreCompatible n b) g k)

pub yes_compatible : (writer reader text : List ℕ) (limits : JudgeLimitValues) (status : ℕ) → JudgeAnswer writer reader limits text status
    → IsYes text status → (written read : List Node) → DeclaresText writer written → DeclaresText reader read → AreCompatible written read
yes_compatible writer reader text limits status answer is_yes written read g h =
    are_compatible answer.written answer.read written read
    (one_text writer answer.written written answer.declares_written.1 g)
    (one_text reader answer.read read answer.declares_read.1 h)
    (answer.answered.yes.0 is_yes).1

pub confirmed_compatible : ((tree : Data) (nodes : List Node) → DeclaresSchema tree nodes → is_schema nodes ≡ true)
    → (writer reader certificate text : List ℕ) (status : ℕ) → ConfirmAnswer writer reader certificate text status
    → IsConfirmed text status → (written read : List Node) → DeclaresText writer written → DeclaresText reader read → AreCompatible written read
confirmed_compatible sound writer reader certificate text status answer confirmed written read g h =
    are_compatible answer.written answer.read written read
    (one_text writer answer.written written answer.declares_written.1 g)
    (one_text reader answer.read read answer.declares_read.1 h)
    (closed_compatible answer.written answer.read answer.dead answer.pairs
    (sound answer.declares_read.1.0 answer.read answer.declares_read.1.2) (answer.answered.confirmed.0 confirmed))
