use Rattle.avro_answer.proofs.VerdictAnswers.{line_answered, status_answered}
use Rattle.avro_answer.proofs.history.judge_line.Goals as goal

pub returns-clause-answered : goal.returns-clause-answered
returns-clause-answered c =
    line_answered c.args.writer.now c.args.reader.now c.args.limits.now c.args.word.now c.in_ok-verdict.verdict c.in_ok-text.text.items c.status_of-status.result
    c.in_ok-text.ensures c.status_of-status.ensures c.in_ok-verdict.ensures

pub returns-clause-status : goal.returns-clause-status
returns-clause-status c =
    status_answered c.args.writer.now c.args.reader.now c.args.limits.now c.in_ok-verdict.verdict c.status_of-status.result c.status_of-status.ensures c.in_ok-verdict.ensures
