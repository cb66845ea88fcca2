-- What was put and what is left are all.
use Rattle.std.proofs.Common.{◌≡◌, ℕ, List, ◌++◌, length}
use Rattle.avro_device.proofs.putting.put_all.Given as goal

abbrev pub invariant-loop-rest : goal.invariant-loop-rest
invariant-loop-rest g l =
    ((front : List ℕ) × g.O.Output.keeps l.initial.output front l.output × (l.bytes ≡ front ++ l.rest))
    × (g.O.Output.failures l.output ≡ g.O.Output.failures l.initial.output)

abbrev pub decreases-loop-rest : goal.decreases-loop-rest
decreases-loop-rest g l = length l.rest
