use Rattle.std.proofs.Common.{arith, sym, ◌∙◌, ◌+◌, ◌-◌, ◌/◌, ◌<◌, length}
use Rattle.avro_certificate.specs.SeenPair.{pair_of}
use Rattle.avro_certificate.proofs.Halving.{before_up_to, none_from}
use Rattle.avro_certificate.proofs.lookup.position_of.Goals as goal

pub loop-low-preserved-then-comes_before : goal.loop-low-preserved-then-comes_before
loop-low-preserved-then-comes_before c =
    let I = c.loop-low.invariant in
    let m = c.loop-low.low + (c.loop-low.high - c.loop-low.low) / 2 in
    let l : m < length c.args.pairs.now = omega (arith, I.0, I.1, c.loop-low-test.true) in (
      omega (arith, I.0, I.1, c.loop-low-test.true),
      omega (arith, I.1, l),
      λ rising. (
        before_up_to c.args.pairs.now (pair_of c.args.other) m _ rising l
            (sym c.comes_before.ensures ∙ c.if-comes_before.true),
        (I.2 rising).1,
      ),
    )

pub loop-low-preserved : goal.loop-low-preserved
loop-low-preserved c =
    let I = c.loop-low.invariant in
    let m = c.loop-low.low + (c.loop-low.high - c.loop-low.low) / 2 in
    let l : m < length c.args.pairs.now = omega (arith, I.0, I.1, c.loop-low-test.true) in (
      omega (arith, I.0, I.1, c.loop-low-test.true),
      omega (arith, I.1, l),
      λ rising. (
        (I.2 rising).0,
        none_from c.args.pairs.now (pair_of c.args.other) m _ rising l
            (sym c.comes_before.ensures ∙ c.if-comes_before.false),
      ),
    )
