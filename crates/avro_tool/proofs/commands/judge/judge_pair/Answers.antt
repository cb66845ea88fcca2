-- The verdict goes through.
use Rattle.std.proofs.Common.{subst}
use Rattle.std.proofs.lemmas.Result.{err_from_is_err_and}
use Rattle.avro_schema.specs.SeenSchema.{schema_nodes}
use Rattle.avro_answer.specs.JsonAnswer.{IsJudgedLine}
use Rattle.avro_answer.specs.JudgeAnswer.{StatusAnswer}
use Rattle.avro_tool.specs.FoundStatus.{finding_status}
use Rattle.avro_tool.proofs.Refusing.{put_nothing}
use Rattle.avro_tool.proofs.commands.judge.judge_pair.Goals as goal

pub returns-clause-status : goal.returns-clause-status
returns-clause-status g c =
    subst (λ s. StatusAnswer (schema_nodes s) (schema_nodes c.args.reader.now) c.args.asked.now.limits (finding_status c.in_ok-verdict.finding)) c.schema.ensures.schema
    c.in_ok-verdict.ensures.status

pub returns-clause-json : goal.returns-clause-json
returns-clause-json g c = λ is_json.
    let told = c.in_ok-verdict.ensures.json is_json in (
      c.in_ok-verdict.verdict,
      told.0,
      subst (λ s. IsJudgedLine (schema_nodes s) c.in_ok-verdict.verdict told.0 (finding_status c.in_ok-verdict.finding)) c.schema.ensures.schema told.1,
      told.2,
    )

pub returns-in_err-verdict-clause-refused : goal.returns-in_err-verdict-clause-refused
returns-in_err-verdict-clause-refused g c = λ none.
    let p = err_from_is_err_and c.from_residual.result c.from_residual.ensures.1 in
    rw (p.1, p.2) (put_nothing c.in_err-verdict.field-0.0 c.in_err-verdict.ensures.fails.only)
