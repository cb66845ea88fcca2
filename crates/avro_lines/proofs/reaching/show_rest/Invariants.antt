-- The lines of the data so far were put or are held.
use Rattle.std.proofs.Common.{◌-◌, ◌≤◌, List, ℕ, length, take}
use Rattle.avro_schema.specs.Value.{Values}
use Rattle.avro_file.specs.BlockFails.{DataAreWhole}
use Rattle.avro_lines.specs.inside.DataShown.{HasShown}
use Rattle.avro_lines.specs.inside.OpenedSeen.{reading_for, shown_for}
use Rattle.avro_lines.proofs.reaching.show_rest.Given as goal

abbrev pub invariant-loop-to : goal.invariant-loop-to
invariant-loop-to g l =
    (l.to.start ≤ length l.body)
    × (l.to.done ≤ l.count)
    × ((first : g.row.O.Denot) (held : List ℕ) (made : Values) → DataAreWhole (reading_for l.opened) l.all l.body made
    → HasShown g.O.Output.keeps g.O.Output.failures (reading_for l.opened) (shown_for l.opened) l.fn.from.done (take l.fn.from.start l.body) first held l.initial.output l.initial.lines.text
    → HasShown g.O.Output.keeps g.O.Output.failures (reading_for l.opened) (shown_for l.opened) l.to.done (take l.to.start l.body) first held l.output l.lines.text)

abbrev pub decreases-loop-to : goal.decreases-loop-to
decreases-loop-to g l = l.count - l.to.done
