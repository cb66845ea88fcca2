use Rattle.std.proofs.Common.{arith}
use Rattle.avro_zigzag.proofs.Steps.{value-below}
use Rattle.avro_zigzag.proofs.read.read_groups.Goals as goal

pub returns-then-bytes-lt128-clause-below : goal.returns-then-bytes-lt128-clause-below
returns-then-bytes-lt128-clause-below c = omega (arith, value-below 0 c.args.most c.args.top c.from.result 0 (omega arith) (omega arith) (omega arith) (λ e. absurd (omega arith)))

pub returns-then-bytes-lt128-2-clause-below : goal.returns-then-bytes-lt128-2-clause-below
returns-then-bytes-lt128-2-clause-below c =
    let low = c.from-then-bytes-lt128-2 in
    let high = c.from-then-bytes-lt128-2-2 in
    omega (arith, value-below 1 c.args.most c.args.top high.result low.result (omega arith) (omega arith) (omega arith) (λ e. absurd (omega arith)))
