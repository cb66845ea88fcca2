use Rattle.std.proofs.Common.{◌∙◌, ap}
use Rattle.std.specs.Prelude.{vec_items}
use Rattle.avro_answer.proofs.VerdictAnswers.{status_answered}
use Rattle.avro_answer.proofs.history.judge_json_line.Goals as goal

pub returns-clause-status : goal.returns-clause-status
returns-clause-status c =
    status_answered c.args.writer.now c.args.reader.now c.args.limits.now c.in_ok-verdict.verdict c.status_of-status.result c.status_of-status.ensures c.in_ok-verdict.ensures

pub returns-clause-json : goal.returns-clause-json
returns-clause-json c = let told = c.in_ok-line.ensures in (told.0, ap vec_items c.into_bytes.ensures.value ∙ told.1, c.status_of-status.ensures)
