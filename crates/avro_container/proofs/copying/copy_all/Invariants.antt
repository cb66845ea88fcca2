-- What holds between the steps.
use Rattle.std.proofs.Common.{◌≡◌}
use Rattle.avro_container.specs.CopierSeen.{job_in, limits_in, stored_of}
use Rattle.avro_container.proofs.CopySteps.{HasRun, steps_left}
use Rattle.avro_container.proofs.copying.copy_all.Given as goal

abbrev pub invariant-loop-count : goal.invariant-loop-count
invariant-loop-count g l =
    HasRun g.I.Input.gives g.O.Output.keeps l.initial.input l.input l.initial.output l.output (job_in l.initial.copier) (limits_in l.initial.copier)
    l.copier l.counts.items l.counts.blocks
    × (g.I.Input.failures l.input ≡ g.I.Input.failures l.initial.input) × (g.O.Output.failures l.output ≡ g.O.Output.failures l.initial.output)

abbrev pub decreases-loop-count : goal.decreases-loop-count
decreases-loop-count g l = steps_left (stored_of l.copier)
