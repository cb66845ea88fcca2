-- The lines of the data so far are held.
use Rattle.std.proofs.Common.{◌-◌, ◌≤◌, length, take}
use Rattle.avro_schema.specs.Value.{Values}
use Rattle.avro_file.specs.BlockFails.{DataAreWhole}
use Rattle.avro_lines.specs.inside.DataShown.{HoldsMore}
use Rattle.avro_lines.specs.inside.OpenedSeen.{reading_for, shown_for}
use Rattle.avro_lines.proofs.reaching.hold_lines.Given as goal

abbrev pub invariant-loop-done : goal.invariant-loop-done
invariant-loop-done l =
    (l.start ≤ length l.body)
    × (l.fn.from.done ≤ l.done)
    × (l.done ≤ l.count)
    × ((some : Values) → DataAreWhole (reading_for l.opened) l.fn.from.done (take l.fn.from.start l.body) some
    → HoldsMore (reading_for l.opened) (shown_for l.opened) some l.done (take l.start l.body) l.initial.lines.text l.lines.text)

abbrev pub decreases-loop-done : goal.decreases-loop-done
decreases-loop-done l = l.count - l.done
