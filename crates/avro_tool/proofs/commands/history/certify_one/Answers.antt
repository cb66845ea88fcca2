-- The line of the two schemas, in this order.
use Rattle.std.specs.Prelude.{None}
use Rattle.avro_tool.specs.FoundStatus.{finding_status}
use Rattle.avro_tool.proofs.Kept.{kept_one}
use Rattle.avro_tool.proofs.Verdicts.{form_answer}
use Rattle.avro_tool.proofs.commands.history.certify_one.Goals as goal

pub returns-clause-answered : goal.returns-clause-answered
returns-clause-answered g c = (
  c.in_ok-judged.judged.answer.text.items,
  form_answer c.args.history.now.form c.args.file.now None c.args.writer.now c.args.reader.now c.args.history.now.limits
      c.in_ok-judged.judged.verdict c.in_ok-judged.judged.answer.text.items c.in_ok-judged.judged.answer.status (finding_status c.in_ok-finding.finding)
      c.in_ok-judged.ensures.answered c.in_ok-judged.ensures.json c.in_ok-judged.ensures.right c.in_ok-judged.ensures.status c.in_ok-finding.ensures.status,
  c.in_ok-finding.ensures.put,
)

pub returns-clause-kept : goal.returns-clause-kept
returns-clause-kept g c = λ good.
    kept_one c.args.writer.now c.args.reader.now c.args.history.now.limits c.in_ok-judged.judged.verdict c.in_ok-judged.judged.answer.status
    (finding_status c.in_ok-finding.finding) c.args.certificates.now.items c.tell_certified.new.certificates.items
    c.in_ok-judged.ensures.right c.in_ok-judged.ensures.status c.in_ok-finding.ensures.status c.in_ok-finding.ensures.kept good
