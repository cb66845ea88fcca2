-- What was taken is held, no more than may be.
use Rattle.std.proofs.Common.{◌≡◌, ◌-◌, ◌≤◌, max, length}
use Rattle.avro_file.specs.Filled.{GrowsBy}
use Rattle.avro_file.specs.Held.{held}
use Rattle.avro_file.proofs.input.fill.Given as goal

abbrev pub invariant-loop-buffer : goal.invariant-loop-buffer
invariant-loop-buffer g l =
    GrowsBy g.I.Input.gives l.initial.input l.input (held l.initial.buffer) (held l.buffer)
    × (length (held l.buffer) ≤ max (length (held l.initial.buffer)) l.most)
    × (g.I.Input.failures l.input ≡ g.I.Input.failures l.initial.input)

abbrev pub decreases-loop-buffer : goal.decreases-loop-buffer
decreases-loop-buffer g l = l.want - length (held l.buffer)
