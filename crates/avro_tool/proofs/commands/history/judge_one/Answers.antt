-- The line of the two schemas, in this order.
use Rattle.std.proofs.lemmas.Result.{err_from_is_err_and}
use Rattle.std.specs.Prelude.{option_copied}
use Rattle.avro_schema.specs.SeenSchema.{schema_nodes}
use Rattle.avro_tool.specs.FoundStatus.{finding_status}
use Rattle.avro_tool.proofs.Failing.{print_fails}
use Rattle.avro_tool.proofs.Verdicts.{form_answer, judged_status}
use Rattle.avro_tool.proofs.commands.history.judge_one.Goals as goal

pub returns-clause-answered : goal.returns-clause-answered
returns-clause-answered g c = (
  c.in_ok-judged.judged.answer.text.items,
  form_answer c.args.history.now.form c.args.line.file.now (option_copied c.args.line.mode) c.args.writer.now c.args.reader.now c.args.history.now.limits
      c.in_ok-judged.judged.verdict c.in_ok-judged.judged.answer.text.items c.in_ok-judged.judged.answer.status (finding_status c.in_ok-finding.finding)
      c.in_ok-judged.ensures.answered c.in_ok-judged.ensures.json c.in_ok-judged.ensures.right c.in_ok-judged.ensures.status c.in_ok-finding.ensures.status,
  c.in_ok-finding.ensures.put,
)

pub returns-clause-status : goal.returns-clause-status
returns-clause-status g c =
    judged_status (schema_nodes c.args.writer.now) (schema_nodes c.args.reader.now) c.args.history.now.limits c.in_ok-judged.judged.answer.status
    (finding_status c.in_ok-finding.finding) c.in_ok-judged.ensures.status c.in_ok-finding.ensures.status

pub returns-in_err-finding-clause-fails : goal.returns-in_err-finding-clause-fails
returns-in_err-finding-clause-fails g c =
    let p = err_from_is_err_and c.from_residual-in_err-finding.result c.from_residual-in_err-finding.ensures.1 in
    rw (p.1, p.2) (print_fails g.O.Output.failures g.O.Output.stuck c.args.out.now c.tell_judged.new.out c.in_err-finding.field-0.0 c.in_err-finding.ensures.fails)
