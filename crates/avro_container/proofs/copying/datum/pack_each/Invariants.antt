-- The data so far are packed, which are the bytes before the offset.
use Rattle.std.proofs.Common.{◌-◌, ◌≤◌, length, take}
use Rattle.std.specs.Option.{IfSome}
use Rattle.avro_file.specs.NoBytes.{PacksNoBytes}
use Rattle.avro_container.specs.inside.BlockSeen.{reading_for}
use Rattle.avro_container.specs.inside.DataPacked.{PacksData}
use Rattle.avro_container.proofs.copying.datum.pack_each.Given as goal

abbrev pub invariant-loop-datum : goal.invariant-loop-datum
invariant-loop-datum l =
    (l.start ≤ length l.body)
    × (l.datum ≤ l.count)
    × PacksData (reading_for l.block) l.datum (take l.start l.body) l.packed.items
    × IfSome l.empty (λ unit. PacksNoBytes (reading_for l.block) unit.items)

abbrev pub decreases-loop-datum : goal.decreases-loop-datum
decreases-loop-datum l = l.count - l.datum
