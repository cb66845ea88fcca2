use Rattle.std.proofs.Common.{sym, subst, refl}
use Rattle.avro_judge.specs.JudgeRanges.{JudgeLimitValues}
use Rattle.avro_answer.specs.JudgeAnswer.{JudgeJson, JudgeStatus}
use Rattle.avro_c.proofs.avrojudge_judge_json_text.Goals as goal

pub returns-in-Ok-clause-answered : goal.returns-in-Ok-clause-answered
returns-in-Ok-clause-answered c = λ answered. let told = c.in-Ok.ensures.json refl in record {
  text = told.0;
  answered = subst (λ (l : JudgeLimitValues). JudgeStatus c.args.writer.now c.args.reader.now l c.tell_cut.result) c.in-Some.ensures.1
      (subst (JudgeStatus c.args.writer.now c.args.reader.now c.in-Some.limits) (sym c.tell_cut.ensures.status) c.in-Ok.ensures.status);
  put = c.tell_cut.ensures.put told.0 told.2;
}

pub returns-in-Ok-clause-json : goal.returns-in-Ok-clause-json
returns-in-Ok-clause-json c = λ answered. let told = c.in-Ok.ensures.json refl in record {
  text = told.0;
  answered = subst (λ (l : JudgeLimitValues). JudgeJson c.args.writer.now c.args.reader.now l told.0 c.tell_cut.result) c.in-Some.ensures.1
      (subst (JudgeJson c.args.writer.now c.args.reader.now c.in-Some.limits told.0) (sym c.tell_cut.ensures.status) told.1);
  put = c.tell_cut.ensures.put told.0 told.2;
}
