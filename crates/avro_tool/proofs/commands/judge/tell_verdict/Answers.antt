-- The answer of the two schemas, in this order.
use Rattle.avro_schema.specs.SeenSchema.{schema_nodes}
use Rattle.avro_tool.specs.FoundStatus.{finding_status}
use Rattle.avro_tool.proofs.Verdicts.{judged_answer, judged_line, judged_status}
use Rattle.avro_tool.proofs.commands.judge.tell_verdict.Goals as goal

pub returns-clause-answered : goal.returns-clause-answered
returns-clause-answered g c = λ is_text.
    let told = c.in_ok-verdict.ensures.answered is_text in (
      told.0,
      judged_answer (schema_nodes c.args.writer.now) (schema_nodes c.args.reader.now) c.args.limits.now told.0 c.in_ok-verdict.status (finding_status c.of_verdict.result)
          told.1 c.in_ok-verdict.ensures.status c.of_verdict.ensures.status,
      told.2,
    )

pub returns-clause-status : goal.returns-clause-status
returns-clause-status g c =
    judged_status (schema_nodes c.args.writer.now) (schema_nodes c.args.reader.now) c.args.limits.now c.in_ok-verdict.status (finding_status c.of_verdict.result)
    c.in_ok-verdict.ensures.status c.of_verdict.ensures.status

pub returns-clause-json : goal.returns-clause-json
returns-clause-json g c = λ is_json.
    let told = c.in_ok-verdict.ensures.json is_json in (
      told.0,
      judged_line (schema_nodes c.args.writer.now) (schema_nodes c.args.reader.now) c.args.limits.now c.in_ok-verdict.verdict told.0 c.in_ok-verdict.status
          (finding_status c.of_verdict.result) told.1 c.in_ok-verdict.ensures.status c.of_verdict.ensures.status,
      told.2,
    )
