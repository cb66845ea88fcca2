-- The data so far stand whole, as the bytes before the offset.
use Rattle.std.proofs.Common.{◌≡◌, ◌-◌, ◌≤◌, true, length, take}
use Rattle.std.specs.Prelude.{None}
use Rattle.avro_schema.specs.SeenSchema.{schema_nodes}
use Rattle.avro_schema.specs.Value.{Values}
use Rattle.avro_file.specs.BlockFails.{BlockReading, DataAreWhole}
use Rattle.avro_file.specs.DataRead.{reading}
use Rattle.avro_file.specs.NoBytes.{HasNoBytes}
use Rattle.avro_file.proofs.block.datum.walk_data.Given as goal

abbrev pub invariant-loop-datum : goal.invariant-loop-datum
invariant-loop-datum l =
    let r : BlockReading = reading l.limits (schema_nodes l.header.schema) l.header.sync None in
    (l.start ≤ length l.body)
    × (l.datum ≤ l.count)
    × ((us : Values) × DataAreWhole r l.datum (take l.start l.body) us)
    × (l.empty ≡ true → HasNoBytes r)

abbrev pub decreases-loop-datum : goal.decreases-loop-datum
decreases-loop-datum l = l.count - l.datum
