use Rattle.std.proofs.Common.{◌∙◌, ℕ, subst, sym}
use Rattle.avro_tool.specs.PlainAnswers.{AnswersPlain}
use Rattle.avro_tool.specs.FoundStatus.{finding_status}
use Rattle.avro_tool.proofs.PlainAsked.{no_refusal, no_verdict, of_refusal}
use Rattle.avro_tool.proofs.run_over.Goals as goal

pub returns-in-Ok-clause-answered : goal.returns-in-Ok-clause-answered
returns-in-Ok-clause-answered g c = λ plain words free apart few.
    subst (λ (n : ℕ). AnswersPlain (g.T.Texts.known c.args.texts.now) (λ text. g.O.Output.keeps c.args.out.now text c.answer.new.out) n plain) (sym c.status.ensures)
    (c.in-Ok.ensures plain words free apart).answered

pub returns-in-Ok-clause-refused : goal.returns-in-Ok-clause-refused
returns-in-Ok-clause-refused g c = λ plain words free apart is.
    no_refusal (g.T.Texts.known c.args.texts.now) (λ text. g.O.Output.keeps c.args.out.now text c.answer.new.out) (finding_status c.in-Ok.finding) plain
    (c.in-Ok.ensures plain words free apart).answered (sym c.status.ensures ∙ is)

pub returns-in-Err-clause-answered : goal.returns-in-Err-clause-answered
returns-in-Err-clause-answered g c = λ plain words free apart few. absurd (no_verdict c.in-Err.failure c.refuse.result c.refuse.ensures few)

pub returns-in-Err-clause-refused : goal.returns-in-Err-clause-refused
returns-in-Err-clause-refused g c = λ plain words free apart is.
    (c.in-Err.ensures plain words free apart).refused (of_refusal c.in-Err.failure c.refuse.result c.refuse.ensures is)
