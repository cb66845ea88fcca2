-- The blocks so far stand after the magic.
use Rattle.std.proofs.Common.{◌+◌, ◌-◌, ◌≤◌, max, length}
use Rattle.avro_file.specs.inside.HeaderParts.{Takes}
use Rattle.avro_file.specs.Held.{held}
use Rattle.avro_file.specs.inside.MetadataParts.{MetadataSoFar}
use Rattle.avro_file.specs.Parts.{properties_of}
use Rattle.avro_file.proofs.header.metadata.take_metadata.Given as goal

abbrev pub invariant-loop-end : goal.invariant-loop-end
invariant-loop-end g l =
    Takes g.I.Input.gives g.I.Input.failures l.reach.limit l.initial.input l.input (held l.initial.buffer) (held l.buffer)
    × (l.at ≤ length (held l.buffer))
    × (length (held l.buffer) ≤ max (length (held l.initial.buffer)) (l.at + l.reach.ahead))
    × MetadataSoFar l.at (held l.buffer) l.properties.names (properties_of l.properties.entries.items)

abbrev pub decreases-loop-end : goal.decreases-loop-end
decreases-loop-end g l = l.reach.limit - l.at
