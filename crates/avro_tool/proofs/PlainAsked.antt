-- The requests that plain words make, and what is answered to them.
use Rattle.std.proofs.Common.{◌≡◌, ◌⊎◌, ◌≤◌, inl, inr, ℕ, List, Bool, true, false, Result, Ok, Err, refl, subst, arith}
use Rattle.std.proofs.lemmas.Result.{IfErr-weaker}
use Rattle.std.specs.Borrow.{Bor}
use Rattle.std.specs.Prelude.{⊤, IfOk}
use Rattle.std.specs.Result.{IfErr}
use Rattle.avro_schema.specs.Node.{Node}
use Rattle.avro_compare.specs.Children.{Pair}
use Rattle.avro_certificate.specs.Closed.{is_closed}
use Rattle.avro_judge.specs.JudgeRanges.{JudgeLimitValues}
use Rattle.avro_judge.specs.declared.verdict.Cause.{Cause}
use Rattle.avro_answer.specs.ConfirmAnswer.{SetsAnswer}
use Rattle.avro_answer.specs.ExplainAnswer.{FaultsAnswer, IsOverPairs}
use Rattle.avro_answer.specs.JudgeAnswer.{IsUndecidedBy, IsYes, SchemasAnswer}
use Rattle.avro_answer.specs.declared.form.Form.{Form}
use Rattle.avro_tool.specs.FailureText.{exit_status}
use Rattle.avro_tool.specs.FilesAnswered.{AnswersWords, ConfirmsFiles, ExplainsFiles, JudgesFiles}
use Rattle.avro_tool.specs.FoundStatus.{finding_status}
use Rattle.avro_tool.specs.PlainAnswers.{AnswersConfirm, AnswersExplain, AnswersJudge, AnswersPlain, Known}
use Rattle.avro_tool.specs.PlainWords.{default_judge_limits, AsksFor, PlainWords}
use Rattle.avro_tool.specs.TextsRefused.{RefusesNothing, RefusesPlain, RefusesThree, RefusesTwo}
use Rattle.avro_tool.specs.declared.Finding.{Finding}
use Rattle.avro_tool.specs.declared.failure.Failure.{Failure}
use Rattle.avro_tool.specs.declared.request.Explaining.{Explaining}
use Rattle.avro_tool.specs.declared.request.Judging.{Judging}
use Rattle.avro_tool.specs.declared.request.Request.{Request}
use Rattle.avro_tool.proofs.Refusing.{refused_three, refused_two}

nothing_said : {X : Type 0} (result : Result X Failure) → IfOk result (λ f. ⊤)
nothing_said (Ok f) = tt
nothing_said (Err e) = tt

nothing_refused : {X : Type 0} (result : Result X Failure) → IfErr result (λ e. exit_status e ≡ 3 → ⊤)
nothing_refused (Ok f) = tt
nothing_refused (Err e) = λ status. tt

module _ (known : Known) (is_put : List ℕ → Type 0) (result : Result Finding Failure) where
  judge_answered : (request : Request) (writer reader : List ℕ) → ((asked : Judging) → request ≡ Request.Judge asked → JudgesFiles known is_put asked result)
      → AsksFor (PlainWords.judge writer reader) request → AnswersWords known is_put (PlainWords.judge writer reader) result
  judge_answered (Request.Judge asked) writer reader answers (w, r, _, refutation, limits, form) =
      let does = answers asked refl in
      record {
        answered = subst (λ (l : JudgeLimitValues). IfOk result (λ f. AnswersJudge known is_put (finding_status f) writer reader l)) limits
            (subst (λ (b : List ℕ). IfOk result (λ f. AnswersJudge known is_put (finding_status f) writer b asked.limits)) r
            (subst (λ (b : List ℕ). IfOk result (λ f. AnswersJudge known is_put (finding_status f) b asked.reader.now asked.limits)) w (does.answered form)));
        refused = IfErr-weaker result _ _ (λ e h status. refused_two known writer reader e status h)
            (subst (λ (b : List ℕ). IfErr result (RefusesTwo known writer b)) r
            (subst (λ (b : List ℕ). IfErr result (RefusesTwo known b asked.reader.now)) w (does.refused refutation)));
      }
  judge_answered _ writer reader answers asks = absurd asks

  explain_answered : (request : Request) (writer reader : List ℕ) → ((asked : Explaining) → request ≡ Request.Explain asked → ExplainsFiles known is_put asked result)
      → AsksFor (PlainWords.explain writer reader) request → AnswersWords known is_put (PlainWords.explain writer reader) result
  explain_answered (Request.Explain asked) writer reader answers (w, r, pairs, form) =
      let does = answers asked refl in
      record {
        answered = subst (λ (n : ℕ). IfOk result (λ f. AnswersExplain known is_put (finding_status f) writer reader n)) pairs
            (subst (λ (b : List ℕ). IfOk result (λ f. AnswersExplain known is_put (finding_status f) writer b asked.max_pairs)) r
            (subst (λ (b : List ℕ). IfOk result (λ f. AnswersExplain known is_put (finding_status f) b asked.reader.now asked.max_pairs)) w (does.answered form)));
        refused = IfErr-weaker result _ _ (λ e h status. refused_two known writer reader e status h)
            (subst (λ (b : List ℕ). IfErr result (RefusesTwo known writer b)) r
            (subst (λ (b : List ℕ). IfErr result (RefusesTwo known b asked.reader.now)) w does.refused));
      }
  explain_answered _ writer reader answers asks = absurd asks

  confirm_answered : (request : Request) (writer reader certificate : List ℕ)
      → ((w r c : Bor (List ℕ)) (form : Form) → request ≡ Request.Confirm w r c form → ConfirmsFiles known is_put w r c form result)
      → AsksFor (PlainWords.confirm writer reader certificate) request → AnswersWords known is_put (PlainWords.confirm writer reader certificate) result
  confirm_answered (Request.Confirm w r c form) writer reader certificate answers (w_is, r_is, c_is, form_is) =
      let does = answers w r c form refl in
      record {
        answered = subst (λ (b : List ℕ). IfOk result (λ f. AnswersConfirm known is_put (finding_status f) writer reader b)) c_is
            (subst (λ (b : List ℕ). IfOk result (λ f. AnswersConfirm known is_put (finding_status f) writer b c.now)) r_is
            (subst (λ (b : List ℕ). IfOk result (λ f. AnswersConfirm known is_put (finding_status f) b r.now c.now)) w_is (does.answered form_is)));
        refused = IfErr-weaker result _ _ (λ e h status. refused_three known writer reader certificate e status h)
            (subst (λ (b : List ℕ). IfErr result (RefusesThree known writer reader b)) c_is
            (subst (λ (b : List ℕ). IfErr result (RefusesThree known writer b c.now)) r_is
            (subst (λ (b : List ℕ). IfErr result (RefusesThree known b r.now c.now)) w_is does.refused)));
      }
  confirm_answered _ writer reader certificate answers asks = absurd asks

  -- what is answered to a request is answered to the plain words that make it
  pub answers_plain : (request : Request)
      → ((asked : Judging) → request ≡ Request.Judge asked → JudgesFiles known is_put asked result)
      → ((asked : Explaining) → request ≡ Request.Explain asked → ExplainsFiles known is_put asked result)
      → ((w r c : Bor (List ℕ)) (form : Form) → request ≡ Request.Confirm w r c form → ConfirmsFiles known is_put w r c form result)
      → (plain : PlainWords) → AsksFor plain request → AnswersWords known is_put plain result
  answers_plain request judge explain confirm (PlainWords.judge writer reader) asks = judge_answered request writer reader judge asks
  answers_plain request judge explain confirm (PlainWords.explain writer reader) asks = explain_answered request writer reader explain asks
  answers_plain request judge explain confirm (PlainWords.confirm writer reader certificate) asks = confirm_answered request writer reader certificate confirm asks
  answers_plain request judge explain confirm (PlainWords.check file) asks = record { answered = nothing_said result; refused = nothing_refused result }
  answers_plain request judge explain confirm (PlainWords.show file) asks = record { answered = nothing_said result; refused = nothing_refused result }
  answers_plain request judge explain confirm (PlainWords.header file) asks = record { answered = nothing_said result; refused = nothing_refused result }
  answers_plain request judge explain confirm (PlainWords.read writer data_file) asks = record { answered = nothing_said result; refused = nothing_refused result }
  answers_plain request judge explain confirm (PlainWords.copy input output) asks = record { answered = nothing_said result; refused = nothing_refused result }

-- an answer has not the status of a refusal
module _ (w r : List Node) (text : List ℕ) (status : ℕ) (refused : status ≡ 3) where
  not_judged : (limits : JudgeLimitValues) → SchemasAnswer w r limits text status → ⊥
  not_judged limits a = go a.known
    where
      go : IsYes text status ⊎ (status ≡ 1) ⊎ ((cause : Cause) × IsUndecidedBy cause text status) → ⊥
      go (inl good) = let is = good.1 in absurd (omega (arith, is, refused))
      go (inr (inl is)) = absurd (omega (arith, is, refused))
      go (inr (inr (cause, passed))) = let is = passed.1 in absurd (omega (arith, is, refused))

  not_explained : (limit : ℕ) → FaultsAnswer w r limit text status → ⊥
  not_explained limit a = go a.known
    where
      go : IsYes text status ⊎ (status ≡ 1) ⊎ IsOverPairs text status → ⊥
      go (inl good) = let is = good.1 in absurd (omega (arith, is, refused))
      go (inr (inl is)) = absurd (omega (arith, is, refused))
      go (inr (inr passed)) = let is = passed.1 in absurd (omega (arith, is, refused))

  not_confirmed : (dead : List ℕ) (pairs : List Pair) → SetsAnswer w r dead pairs text status → ⊥
  not_confirmed dead pairs a = go (is_closed w r dead pairs) refl
    where
      go : (closed : Bool) → is_closed w r dead pairs ≡ closed → ⊥
      go true e = let is = (a.confirmed.1 e).1 in absurd (omega (arith, is, refused))
      go false e = let is = (a.refused.1 e).1 in absurd (omega (arith, is, refused))

pub no_refusal : (known : Known) (is_put : List ℕ → Type 0) (status : ℕ) (plain : PlainWords) → AnswersPlain known is_put status plain → status ≡ 3 → RefusesPlain known plain
no_refusal known is_put status (PlainWords.judge writer reader) answers refused = λ w r written read.
    let told = answers w r written read in
    absurd (not_judged told.1.written told.1.read told.0 status refused default_judge_limits told.1.answered)
no_refusal known is_put status (PlainWords.explain writer reader) answers refused = λ w r written read.
    let told = answers w r written read in
    absurd (not_explained told.1.written told.1.read told.0 status refused 4194304 told.1.answered)
no_refusal known is_put status (PlainWords.confirm writer reader certificate) answers refused = λ w r c written read certified.
    let told = answers w r c written read certified in
    absurd (not_confirmed told.1.written told.1.read told.0 status refused told.1.dead told.1.pairs told.1.answered)
no_refusal known is_put status plain answers refused = tt

-- nor has a failure that of a verdict
pub no_verdict : (failure : Failure) (status : ℕ) → (status ≡ exit_status failure) ⊎ (status ≡ 5) → status ≤ 2 → ⊥
no_verdict failure status (inr is) few = omega (arith, is, few)
no_verdict (Failure.Schema word e) status (inl is) few = omega (arith, is, few)
no_verdict (Failure.Certificate word e) status (inl is) few = omega (arith, is, few)
no_verdict (Failure.Container word e) status (inl is) few = omega (arith, is, few)
no_verdict (Failure.Data word e) status (inl is) few = omega (arith, is, few)
no_verdict (Failure.CannotRead word) status (inl is) few = omega (arith, is, few)
no_verdict (Failure.CannotWrite word) status (inl is) few = omega (arith, is, few)
no_verdict Failure.CannotPrint status (inl is) few = omega (arith, is, few)
no_verdict Failure.OutOfMemory status (inl is) few = omega (arith, is, few)
no_verdict _ status (inl is) few = omega (arith, is, few)

-- the status of a refusal is that of the failure
pub of_refusal : (failure : Failure) (status : ℕ) → (status ≡ exit_status failure) ⊎ (status ≡ 5) → status ≡ 3 → exit_status failure ≡ 3
of_refusal failure status (inl is) refused = omega (arith, is, refused)
of_refusal failure status (inr is) refused = absurd (omega (arith, is, refused))

-- a failure that refuses nothing has not that status, so that it says nothing
pub nothing_plain : (known : Known) (plain : PlainWords) (failure : Failure) → RefusesNothing failure → exit_status failure ≡ 3 → RefusesPlain known plain
nothing_plain known plain (Failure.Schema word e) h status = absurd h
nothing_plain known plain (Failure.Certificate word e) h status = absurd h
nothing_plain known plain (Failure.Container word e) h status = absurd h
nothing_plain known plain (Failure.Data word e) h status = absurd h
nothing_plain known plain failure h status = absurd (omega (arith, status))
