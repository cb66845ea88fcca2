-- The data so far stand whole, as the bytes before the offset.
use Rattle.std.proofs.Common.{◌-◌, ◌≤◌, length, take}
use Rattle.std.specs.Prelude.{option_map}
use Rattle.avro_schema.specs.SeenSchema.{schema_nodes}
use Rattle.avro_file.specs.DataRead.{StandForData, reading}
use Rattle.avro_file.proofs.block.Block.read_data.Given as goal

abbrev pub invariant-loop-datum : goal.invariant-loop-datum
invariant-loop-datum g l =
    (l.start ≤ length l.self.body.items)
    × (l.datum ≤ l.self.count)
    × StandForData g.B.Build.stands_for
    (reading l.self.limits (schema_nodes l.schema) l.self.header.now.sync (option_map (λ p. schema_nodes p.1) l.plan))
    l.datum (take l.start l.self.body.items) l.answers.items

abbrev pub decreases-loop-datum : goal.decreases-loop-datum
decreases-loop-datum g l = l.self.count - l.datum
