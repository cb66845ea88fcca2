use Rattle.std.proofs.Common.{map}
use Rattle.avro_schema.specs.SeenSchema.{schema_nodes}
use Rattle.avro_answer.specs.HistoryAnswer.{LinesAnswer, LinesJson}
use Rattle.avro_answer.proofs.HistoryLines.{if_ok, snoc_nodes, lines_of_all, status_of_all}
use Rattle.avro_answer.proofs.history_lines.judge_history.Goals as goal

pub returns-in-Some-clause-answered : goal.returns-in-Some-clause-answered
returns-in-Some-clause-answered c =
    let parted = snoc_nodes c.args.schemas.now c.in-Some.writers.now c.in-Some.reader.now c.in-Some.ensures.cases.0 in
    if_ok _ _ (λ answer told is_text. lines_of_all (map schema_nodes c.args.schemas.now) (map schema_nodes c.in-Some.writers.now) (schema_nodes c.in-Some.reader.now)
    parted (λ writers reader. LinesAnswer writers reader c.args.limits.now) answer.text.items answer.status (told is_text)) c.judge_writers.result c.judge_writers.ensures.answered

pub returns-in-Some-clause-json : goal.returns-in-Some-clause-json
returns-in-Some-clause-json c =
    let parted = snoc_nodes c.args.schemas.now c.in-Some.writers.now c.in-Some.reader.now c.in-Some.ensures.cases.0 in
    if_ok _ _ (λ answer told is_json. lines_of_all (map schema_nodes c.args.schemas.now) (map schema_nodes c.in-Some.writers.now) (schema_nodes c.in-Some.reader.now)
    parted (λ writers reader. LinesJson writers reader c.args.limits.now) answer.text.items answer.status (told is_json)) c.judge_writers.result c.judge_writers.ensures.json

pub returns-in-Some-clause-status : goal.returns-in-Some-clause-status
returns-in-Some-clause-status c =
    let parted = snoc_nodes c.args.schemas.now c.in-Some.writers.now c.in-Some.reader.now c.in-Some.ensures.cases.0 in
    if_ok _ _ (λ answer told. status_of_all (map schema_nodes c.args.schemas.now) (map schema_nodes c.in-Some.writers.now) (schema_nodes c.in-Some.reader.now)
    parted c.args.limits.now answer.status told) c.judge_writers.result c.judge_writers.ensures.status
