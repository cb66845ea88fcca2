use Rattle.std.proofs.Common.{◌≡◌, length}
use Rattle.avro_compare.specs.Entries.{AreAscending, entry_at}
use Rattle.avro_least.proofs.pairs.parts.find_entry.Given as goal

abbrev pub invariant-loop-left : goal.invariant-loop-left
invariant-loop-left l = AreAscending 0 l.left × (entry_at l.entries l.index ≡ entry_at l.left l.index)

abbrev pub decreases-loop-left : goal.decreases-loop-left
decreases-loop-left l = length l.left
