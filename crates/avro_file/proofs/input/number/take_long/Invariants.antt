-- A number that stands there begins no later than it did.
use Rattle.std.proofs.Common.{◌≡◌, ◌+◌, ◌-◌, ◌≤◌, ℕ, ℤ, List, ◌++◌, max, length, drop}
use Rattle.avro_zigzag.specs.Number.{SpellsLong}
use Rattle.avro_file.specs.Filled.{GrowsBy}
use Rattle.avro_file.specs.Held.{held}
use Rattle.avro_file.proofs.input.number.take_long.Given as goal

abbrev pub invariant-loop-found : goal.invariant-loop-found
invariant-loop-found g l =
    GrowsBy g.I.Input.gives l.initial.input l.input (held l.initial.buffer) (held l.buffer)
    × (l.at ≤ length (held l.buffer))
    × (length (held l.buffer) ≤ max (length (held l.initial.buffer)) l.reach.limit)
    × ((v : ℤ) (number rest : List ℕ) → SpellsLong v number → drop l.at (held l.buffer) ≡ number ++ rest
    → length (held l.buffer) ≤ max (length (held l.initial.buffer)) (l.at + length number + l.reach.ahead))
    × (g.I.Input.failures l.input ≡ g.I.Input.failures l.initial.input)

abbrev pub decreases-loop-found : goal.decreases-loop-found
decreases-loop-found g l = l.at + 10 - length (held l.buffer)
