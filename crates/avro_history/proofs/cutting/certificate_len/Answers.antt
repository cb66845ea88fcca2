use Rattle.std.proofs.Common.{ℕ, ◌∙◌, arith}
use Rattle.avro_history.proofs.Fronts.{ends_at, no_end}
use Rattle.avro_history.proofs.cutting.certificate_len.Goals as goal

pub returns-then-byte-eq110-clause-exact : goal.returns-then-byte-eq110-clause-exact
returns-then-byte-eq110-clause-exact c = λ s more e.
    c.min.ensures ∙ ends_at c.args.text.now c.loop-i.i c.loop-i-test.true c.if-byte-eq110.true c.loop-i.invariant s more e

pub returns-clause-exact : goal.returns-clause-exact
returns-clause-exact c = λ s more e.
    absurd (no_end c.args.text.now (λ k within. c.loop-i.invariant k (omega (arith, within, c.loop-i-test.false))) s more e)
