use Rattle.std.proofs.Common.{[], append-nil, subst, sym}
use Rattle.avro_display.proofs.public.Fronts.{on_any_err}
use Rattle.avro_tool.proofs.printing.put_answer.Goals as goal

pub returns-clause-put : goal.returns-clause-put
returns-clause-put g c =
    subst (λ bytes. g.O.Output.keeps c.args.out.now bytes c.flush.new.self) (append-nil c.args.answer.now)
    (g.met.O.Output.chain c.args.out.now c.put_all.new.output c.flush.new.self c.args.answer.now [] c.in_ok-put_all.ensures.put c.flush.ensures.none)

pub returns-in_err-flush-clause-front : goal.returns-in_err-flush-clause-front
returns-in_err-flush-clause-front g c = on_any_err (record {
  front = c.args.answer.now;
  later = [];
  kept = subst (λ bytes. g.O.Output.keeps c.args.out.now bytes c.flush.new.self) (append-nil c.args.answer.now)
      (g.met.O.Output.chain c.args.out.now c.put_all.new.output c.flush.new.self c.args.answer.now [] c.in_ok-put_all.ensures.put c.flush.ensures.none);
  split = sym (append-nil c.args.answer.now);
}) c.from_residual-in_err-flush.result
