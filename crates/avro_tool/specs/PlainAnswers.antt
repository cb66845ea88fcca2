-- What the program answers to a command and its files, where it is known what these hold.
use Rattle.std.specs.Prelude.{◌≡◌, ⊤, ℕ, List, Option, Some}
use Rattle.avro_judge.specs.JudgeRanges.{JudgeLimitValues}
use Rattle.avro_answer.specs.ConfirmAnswer.{ConfirmAnswer}
use Rattle.avro_answer.specs.ExplainAnswer.{ExplainAnswer}
use Rattle.avro_answer.specs.JudgeAnswer.{JudgeAnswer}
use Rattle.avro_tool.specs.PlainWords.{default_judge_limits, PlainWords}

-- what each file holds, by the word that names it, as far as it is known
abbrev pub Known : Type 0
Known = List ℕ → Option (List ℕ)

-- the verdict of the texts of two files, the writer's first, was put, and this is its status
abbrev pub AnswersJudge : Known → (List ℕ → Type 0) → ℕ → List ℕ → List ℕ → JudgeLimitValues → Type 0
AnswersJudge known is_put status writer reader limits = (w r : List ℕ) → known writer ≡ Some w → known reader ≡ Some r
    → (text : List ℕ) × JudgeAnswer w r limits text status × is_put text

-- all their faults were
abbrev pub AnswersExplain : Known → (List ℕ → Type 0) → ℕ → List ℕ → List ℕ → ℕ → Type 0
AnswersExplain known is_put status writer reader limit = (w r : List ℕ) → known writer ≡ Some w → known reader ≡ Some r
    → (text : List ℕ) × ExplainAnswer w r limit text status × is_put text

-- whether the text of a third confirms them was
abbrev pub AnswersConfirm : Known → (List ℕ → Type 0) → ℕ → List ℕ → List ℕ → List ℕ → Type 0
AnswersConfirm known is_put status writer reader certificate = (w r c : List ℕ) → known writer ≡ Some w → known reader ≡ Some r → known certificate ≡ Some c
    → (text : List ℕ) × ConfirmAnswer w r c text status × is_put text

-- the answer to plain words was; nothing is said here of the commands that judge no pair
abbrev pub AnswersPlain : Known → (List ℕ → Type 0) → ℕ → PlainWords → Type 0
AnswersPlain known is_put status (PlainWords.judge writer reader) = AnswersJudge known is_put status writer reader default_judge_limits
AnswersPlain known is_put status (PlainWords.explain writer reader) = AnswersExplain known is_put status writer reader 4194304
AnswersPlain known is_put status (PlainWords.confirm writer reader certificate) = AnswersConfirm known is_put status writer reader certificate
AnswersPlain known is_put status plain = ⊤
