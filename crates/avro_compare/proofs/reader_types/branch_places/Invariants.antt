use Rattle.std.proofs.Common.{◌≡◌, ◌≤◌, ◌==◌, ℕ, length}
use Rattle.std.specs.BTreeMap.{get}
use Rattle.std.specs.Ordering.{nat_cmp}
use Rattle.avro_compare.proofs.PlainBranches.{branch_from}
use Rattle.avro_compare.proofs.reader_types.branch_places.Given as goal

abbrev pub invariant-loop-left : goal.invariant-loop-left
invariant-loop-left l = (l.left ≤ length l.branches) × ((b : ℕ) → get nat_cmp l.places b ≡ branch_from (λ c. c == b) l.branches l.left)

abbrev pub decreases-loop-left : goal.decreases-loop-left
decreases-loop-left l = l.left
