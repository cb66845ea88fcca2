-- The properties so far stand one after another.
use Rattle.std.proofs.Common.{◌≡◌, ◌+◌, ◌-◌, ◌≤◌, max, true, length, bytes_eq}
use Rattle.avro_schema.specs.Distinct.{are_distinct}
use Rattle.avro_cursor.specs.Breaks.{Left}
use Rattle.avro_file.specs.inside.HeaderParts.{AreNames, Takes, TakesProperties}
use Rattle.avro_file.specs.Held.{held}
use Rattle.avro_file.specs.Parts.{properties_of}
use Rattle.avro_file.proofs.header.properties.take_properties.Given as goal

abbrev pub invariant-loop-done : goal.invariant-loop-done
invariant-loop-done g l =
    Takes g.I.Input.gives g.I.Input.failures l.reach.limit l.initial.input l.input (held l.initial.buffer) (held l.buffer)
    × (l.done ≤ l.count)
    × (l.end ≤ length (held l.buffer))
    × (length (held l.buffer) ≤ max (length (held l.initial.buffer)) (l.end + l.reach.ahead))
    × ((left : Left) → l.count ≤ left.nodes → AreNames l.initial.properties.names left.keys → are_distinct bytes_eq left.keys ≡ true
    → TakesProperties left l.properties.names l.done l.at l.end (held l.buffer) (properties_of l.initial.properties.entries.items) (properties_of l.properties.entries.items))
    × (l.at ≤ l.end)

abbrev pub decreases-loop-done : goal.decreases-loop-done
decreases-loop-done g l = l.count - l.done
