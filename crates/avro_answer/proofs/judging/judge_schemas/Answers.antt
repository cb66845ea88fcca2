use Rattle.std.proofs.Common.{inl, inr, refl}
use Rattle.avro_display.proofs.public.Fronts.{on_any_err}
use Rattle.avro_schema.specs.SeenSchema.{schema_nodes}
use Rattle.avro_answer.specs.JsonAnswer.{json_line, judged_tree, verdict_status}
use Rattle.avro_answer.specs.inside.VerdictTexts.{verdict_text}
use Rattle.avro_answer.proofs.VerdictAnswers.{answered, status_answered}
use Rattle.avro_answer.proofs.judging.judge_schemas.Goals as goal

pub returns-clause-answered : goal.returns-clause-answered
returns-clause-answered g c = λ is_text.
    let text = verdict_text (schema_nodes c.args.writer.now) c.in_ok-verdict.verdict in (
      text,
      answered c.args.writer.now c.args.reader.now c.args.limits.now c.in_ok-verdict.verdict text c.status_of-status.result
          refl c.status_of-status.ensures c.in_ok-verdict.ensures,
      c.in_ok-put_verdict.ensures.put is_text,
    )

pub returns-clause-status : goal.returns-clause-status
returns-clause-status g c =
    status_answered c.args.writer.now c.args.reader.now c.args.limits.now c.in_ok-verdict.verdict c.status_of-status.result c.status_of-status.ensures c.in_ok-verdict.ensures

pub returns-clause-json : goal.returns-clause-json
returns-clause-json g c = λ is_json.
    let put = c.in_ok-put_verdict.ensures.put_json is_json in
    (json_line (judged_tree (schema_nodes c.args.writer.now) put.0 c.in_ok-verdict.verdict), (put.0, refl, c.status_of-status.ensures), put.1)

pub returns-in_err-verdict-clause-front : goal.returns-in_err-verdict-clause-front
returns-in_err-verdict-clause-front g c = λ is_text. on_any_err (inl (g.met.O.Output.none c.args.out.now)) c.from_residual.result

pub returns-in_err-verdict-clause-front_json : goal.returns-in_err-verdict-clause-front_json
returns-in_err-verdict-clause-front_json g c = λ is_json. on_any_err (inl (g.met.O.Output.none c.args.out.now)) c.from_residual.result

pub returns-in_err-put_verdict-clause-front : goal.returns-in_err-put_verdict-clause-front
returns-in_err-put_verdict-clause-front g c = λ is_text.
    let verdict = c.in_ok-verdict.verdict in
    let text = verdict_text (schema_nodes c.args.writer.now) verdict in
    on_any_err (inr (
      text,
      verdict_status verdict,
      answered c.args.writer.now c.args.reader.now c.args.limits.now verdict text (verdict_status verdict) refl refl c.in_ok-verdict.ensures,
      c.in_err-put_verdict.ensures.front is_text,
    )) c.from_residual-in_err-put_verdict.result

pub returns-in_err-put_verdict-clause-front_json : goal.returns-in_err-put_verdict-clause-front_json
returns-in_err-put_verdict-clause-front_json g c = λ is_json.
    let verdict = c.in_ok-verdict.verdict in
    let put = c.in_err-put_verdict.ensures.front_json is_json in
    on_any_err (inr (verdict, json_line (judged_tree (schema_nodes c.args.writer.now) put.0 verdict), verdict_status verdict, c.in_ok-verdict.ensures, (put.0, refl, refl), put.1)) c.from_residual-in_err-put_verdict.result
