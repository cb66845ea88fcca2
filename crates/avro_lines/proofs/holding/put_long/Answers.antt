-- What is short is held on.
use Rattle.std.proofs.Common.{refl}
use Rattle.std.proofs.lemmas.Result.{MatchResult-weaker}
use Rattle.avro_lines.proofs.Parts.{part-held, puts-all, puts-still}
use Rattle.avro_lines.proofs.holding.put_long.Goals as goal

pub returns-then-len-lt-CAPACITY : goal.returns-then-len-lt-CAPACITY
returns-then-len-lt-CAPACITY g c = puts-still g.O.Output.keeps g.O.Output.failures g.met.O.Output.none c.args.output.now c.args.lines.now.text c.args.lines.now.text refl

pub returns : goal.returns
returns g c = MatchResult-weaker c.put_held.result c.put_held.ensures.held
    (λ _ out. puts-all g.O.Output.keeps g.O.Output.failures c.args.output.now c.put_held.new.output c.args.lines.now.text c.put_held.new.lines.text out.put c.put_held.ensures.none out.works)
    (λ e failed. (
      failed.error,
      part-held g.O.Output.keeps g.O.Output.failures g.O.Output.stuck c.args.output.now c.put_held.new.output c.args.lines.now.text c.put_held.new.lines.text e failed c.put_held.ensures.none,
    ))
