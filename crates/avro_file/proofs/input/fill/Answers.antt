-- What was taken goes after what was taken before.
use Rattle.std.proofs.Common.{rules}
use Rattle.avro_file.specs.Held.{held}
use Rattle.avro_file.proofs.Taking.{GrowsBy-chain, TakesAtMost-behind, TakesAtMost-from_grown}
use Rattle.avro_file.proofs.input.fill.Goals as goal

pub returns-then-count-eq0-clause-lost : goal.returns-then-count-eq0-clause-lost
returns-then-count-eq0-clause-lost g c =
    let grown = GrowsBy-chain g.I.Input.gives g.met.I.Input.chain _ _ _ _ _ _ c.loop-buffer.invariant.0 c.in-Ok.ensures.taken in
    TakesAtMost-from_grown g.I.Input.gives _ _ (held c.args.buffer.now) _ c.args.reach.limit grown (search rules)

pub returns-in-Err-Device-clause-lost : goal.returns-in-Err-Device-clause-lost
returns-in-Err-Device-clause-lost g c =
    TakesAtMost-behind g.I.Input.gives g.met.I.Input.chain _ _ _ (held c.args.buffer.now) (held c.loop-buffer.buffer)
    c.min-wanted.result _ c.loop-buffer.invariant.0 c.in-Err-Device.ensures.lost (search rules)
