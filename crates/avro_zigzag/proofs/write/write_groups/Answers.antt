use Rattle.std.proofs.Common.{arith, ◌∙◌, length-set}
use Rattle.avro_zigzag.proofs.Steps.{room, rest-within, written_more, zero_more, written_all}
use Rattle.avro_zigzag.proofs.write.write_groups.Goals as goal

pub loop-rest-preserved : goal.loop-rest-preserved
loop-rest-preserved c =
    let bytes = c.loop-rest.bytes in
    let rest = c.loop-rest.rest in
    let len = c.loop-rest.len in
    let n = c.args.number in (
      room rest len n c.loop-rest-test.true c.loop-rest.invariant.2 (omega arith),
      length-set bytes _ _ ∙ c.loop-rest.invariant.1,
      rest-within rest len n c.loop-rest.invariant.2,
      written_more n rest len bytes (omega arith) c.loop-rest-test.true c.loop-rest.invariant.3,
      zero_more bytes len _ c.loop-rest.invariant.4,
    )

pub returns-clause-spelled : goal.returns-clause-spelled
returns-clause-spelled c =
    written_all c.args.number c.loop-rest.rest c.loop-rest.len c.loop-rest.bytes (omega arith) c.loop-rest-test.false c.loop-rest.invariant.3
