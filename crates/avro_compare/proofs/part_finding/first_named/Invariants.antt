use Rattle.std.proofs.Common.{◌≡◌, ℕ, List, drop}
use Rattle.avro_compare.specs.inside.PartNumbers.{FindsIn, first_number}
use Rattle.avro_compare.proofs.part_finding.first_named.Given as goal

abbrev pub invariant-loop-number : goal.invariant-loop-number
invariant-loop-number l = (list : List ℕ) → FindsIn l.places l.id list → first_number list l.numbers ≡ first_number list (drop l.number-index l.numbers)
