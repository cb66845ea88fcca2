use Rattle.std.proofs.Common.{arith}
use Rattle.std.proofs.lemmas.Bool.Decides.{nat_tests}
use Rattle.avro_zigzag.proofs.Fewest.{least-from_last}
use Rattle.avro_zigzag.proofs.shortest.ends_shortest.Goals as goal

pub returns-then-byte-lt128 : goal.returns-then-byte-lt128
returns-then-byte-lt128 c = λ front rest groups e above.
    least-from_last c.args.bytes.now c.loop-byte.byte-index front rest c.loop-byte-test.true c.loop-byte.invariant c.if-byte-lt128.true (grind (arith, nat_tests)) groups e
