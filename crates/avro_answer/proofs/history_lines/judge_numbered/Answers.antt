use Rattle.std.proofs.Common.{◌∙◌}
use Rattle.avro_certificate.specs.CertificateText.{decimal}
use Rattle.avro_answer.proofs.VerdictAnswers.{json_line_answered}
use Rattle.avro_answer.proofs.history_lines.judge_numbered.Goals as goal

pub returns-clause-json : goal.returns-clause-json
returns-clause-json c = λ _.
    json_line_answered c.args.writer.now c.args.reader.now c.args.limits.now (decimal c.args.number) _ _ _ _
    c.in_ok-judged-in-Json.ensures.right c.in_ok-judged-in-Json.ensures.json (c.deref-in-Json.ensures ∙ c.in_ok-word.ensures)
