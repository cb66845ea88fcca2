use Rattle.std.proofs.Common.{◌∙◌}
use Rattle.avro_answer.proofs.Certified.{certified}
use Rattle.avro_answer.proofs.VerdictAnswers.{status_answered}
use Rattle.avro_answer.proofs.certifying.certify_schemas.Goals as goal

pub returns-clause-answered : goal.returns-clause-answered
returns-clause-answered c =
    status_answered c.args.writer.now c.args.reader.now c.args.limits.now c.in_ok-verdict.verdict c.status_of-status.result c.status_of-status.ensures c.in_ok-verdict.ensures

pub returns-clause-certified : goal.returns-clause-certified
returns-clause-certified c =
    certified c.args.writer.now c.args.reader.now c.args.limits.now c.in_ok-verdict.verdict c.in_ok-text.text.items c.status_of-status.result
    c.status_of-status.ensures c.in_ok-verdict.ensures c.in_ok-text.ensures.certified

pub returns-clause-bare : goal.returns-clause-bare
returns-clause-bare c = λ other. c.in_ok-text.ensures.bare (λ zero. other (c.status_of-status.ensures ∙ zero))
