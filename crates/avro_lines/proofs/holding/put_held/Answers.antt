-- The text is what was put.
use Rattle.std.proofs.Common.{List, ℕ, subst}
use Rattle.std.specs.Prelude.{MatchResult}
use Rattle.avro_lines.specs.inside.OutputTold.{PutFails, PutsFlushed}
use Rattle.avro_lines.proofs.holding.put_held.Goals as goal

pub returns-clause-held : goal.returns-clause-held
returns-clause-held g c = subst (λ (b : List ℕ). MatchResult c.put_flushed-put.result
    (λ _. PutsFlushed g.O.Output.keeps g.O.Output.flushed g.O.Output.failures c.args.output.now b c.put_flushed-put.new.output)
    (PutFails g.O.Output.keeps g.O.Output.failures g.O.Output.stuck c.args.output.now b c.put_flushed-put.new.output)) c.as_slice.ensures c.put_flushed-put.ensures
