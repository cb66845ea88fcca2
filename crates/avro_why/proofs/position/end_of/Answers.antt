use Rattle.std.proofs.Common.{arith}
use Rattle.avro_why.proofs.Ends.{ends-empty, ends-at-feed, ends-at-more}
use Rattle.avro_why.proofs.position.end_of.Goals.{then-byte-eq10, else-byte-eq10}
use Rattle.avro_why.proofs.position.end_of.Goals as goal

pub loop-byte-init : goal.loop-byte-init
loop-byte-init c = (ends-empty, omega arith, omega arith)

pub loop-byte-preserved : goal.loop-byte-preserved
loop-byte-preserved c = elim c.if-byte-eq10.branch [
  | then-byte-eq10 w ↦ rw (w.line-is, w.column-is) (
    ends-at-feed c.args.text.now c.loop-byte.byte-index c.loop-byte.line c.loop-byte.column c.loop-byte-test.true w.if-byte-eq10.true c.loop-byte.invariant.0,
    omega (arith, c.loop-byte.invariant.1),
    omega arith,
  )
  | else-byte-eq10 w ↦ rw (w.line-is, w.column-is) (
    ends-at-more c.args.text.now c.loop-byte.byte-index c.loop-byte.line c.loop-byte.column c.loop-byte-test.true w.if-byte-eq10.false c.loop-byte.invariant.0,
    omega (arith, c.loop-byte.invariant.1),
    omega (arith, c.loop-byte.invariant.2),
  )
]
