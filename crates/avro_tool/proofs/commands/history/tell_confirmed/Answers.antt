use Rattle.std.proofs.Common.{◌∙◌, subst, arith}
use Rattle.avro_tool.proofs.commands.history.tell_confirmed.Goals as goal

pub returns-clause-answered : goal.returns-clause-answered
returns-clause-answered g c =
    let told = c.in_ok-answer.ensures in
    let status = c.of_verdict.ensures.status in (
      c.in_ok-answer.answer.text.items,
      record {
        good = λ is. let zero = told.yes is in status (omega (arith, zero)) ∙ zero;
        bad = λ is. let one = told.no is in status (omega (arith, one)) ∙ one;
        yes = told.yes_text;
        no = told.no_text;
        json = told.json;
      },
      subst (λ bytes. g.O.Output.keeps c.args.out.now bytes c.print_bytes.new.out) c.deref.ensures.value c.in_ok-print_bytes.ensures.put,
    )
