-- What the commands that judge two files do, by what is known of these: they put their answer, or refuse a text.
use Rattle.std.specs.Borrow.{Bor}
use Rattle.std.specs.Prelude.{◌≡◌, ℕ, List, None, Result, IfOk}
use Rattle.std.specs.Result.{IfErr}
use Rattle.avro_answer.specs.declared.form.Form.{Form}
use Rattle.avro_tool.specs.FoundStatus.{finding_status}
use Rattle.avro_tool.specs.PlainAnswers.{AnswersConfirm, AnswersExplain, AnswersJudge, AnswersPlain, Known}
use Rattle.avro_tool.specs.PlainWords.{PlainWords}
use Rattle.avro_tool.specs.FailureText.{exit_status}
use Rattle.avro_tool.specs.TextsRefused.{RefusesPlain, RefusesThree, RefusesTwo}
use Rattle.avro_tool.specs.declared.Finding.{Finding}
use Rattle.avro_tool.specs.declared.failure.Failure.{Failure}
use Rattle.avro_tool.specs.declared.request.Explaining.{Explaining}
use Rattle.avro_tool.specs.declared.request.Judging.{Judging}

pub record JudgesFiles (known : Known) (is_put : List ℕ → Type 0) (asked : Judging) (result : Result Finding Failure) : Type 0 where
  pub answered : asked.form ≡ Form.Text → IfOk result (λ f. AnswersJudge known is_put (finding_status f) asked.writer.now asked.reader.now asked.limits)
  -- (the file of a refutation may be refused, too)
  pub refused : asked.refutation ≡ None → IfErr result (RefusesTwo known asked.writer.now asked.reader.now)

pub record ExplainsFiles (known : Known) (is_put : List ℕ → Type 0) (asked : Explaining) (result : Result Finding Failure) : Type 0 where
  pub answered : asked.form ≡ Form.Text → IfOk result (λ f. AnswersExplain known is_put (finding_status f) asked.writer.now asked.reader.now asked.max_pairs)
  pub refused : IfErr result (RefusesTwo known asked.writer.now asked.reader.now)

pub record ConfirmsFiles (known : Known) (is_put : List ℕ → Type 0) (writer reader certificate : Bor (List ℕ)) (form : Form) (result : Result Finding Failure) : Type 0 where
  pub answered : form ≡ Form.Text → IfOk result (λ f. AnswersConfirm known is_put (finding_status f) writer.now reader.now certificate.now)
  pub refused : IfErr result (RefusesThree known writer.now reader.now certificate.now)

-- the same of plain words, by the exit status
pub record AnswersWords (known : Known) (is_put : List ℕ → Type 0) (plain : PlainWords) (result : Result Finding Failure) : Type 0 where
  pub answered : IfOk result (λ f. AnswersPlain known is_put (finding_status f) plain)
  pub refused : IfErr result (λ failure. exit_status failure ≡ 3 → RefusesPlain known plain)
