use Rattle.std.proofs.Common.{◌≡◌, ◌≤◌, ℕ, List, length, drop}
use Rattle.avro_compare.specs.inside.PartNumbers.{FindsIn}
use Rattle.avro_compare.proofs.FirstNumber.{first_from}
use Rattle.avro_compare.proofs.part_finding.first_among.Given as goal

abbrev pub invariant-loop-left : goal.invariant-loop-left
invariant-loop-left l = (l.left ≤ length l.list)
    × ((numbers : List ℕ) → FindsIn l.places l.id numbers → l.found ≡ first_from 0 l.left (drop l.left l.list) numbers)

abbrev pub decreases-loop-left : goal.decreases-loop-left
decreases-loop-left l = l.left
