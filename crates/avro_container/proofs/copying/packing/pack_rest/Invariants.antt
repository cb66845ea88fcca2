-- The data so far are packed, whatever is before them.
use Rattle.std.proofs.Common.{◌-◌, ◌≤◌, List, ℕ}
use Rattle.avro_container.specs.inside.BlockSeen.{reading_for}
use Rattle.avro_container.specs.inside.DataPacked.{PacksData}
use Rattle.avro_container.proofs.copying.packing.pack_rest.Given as goal

abbrev pub invariant-loop-datum : goal.invariant-loop-datum
invariant-loop-datum l =
    (l.datum ≤ l.count)
    × ((front : List ℕ) → PacksData (reading_for l.block) l.done front l.fn.packed.items → PacksData (reading_for l.block) l.datum front l.packed.items)

abbrev pub decreases-loop-datum : goal.decreases-loop-datum
decreases-loop-datum l = l.count - l.datum
