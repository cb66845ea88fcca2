-- what spells the rest spells the number behind the groups so far
use Rattle.std.proofs.Common.{List, ℕ}
use Rattle.avro_binary.specs.Outputs.{Grows}
use Rattle.avro_packed.specs.inside.Groups.{GroupsSoFar}
use Rattle.avro_packed.proofs.numbers.append_groups.Given as goal

abbrev pub invariant-loop-rest : goal.invariant-loop-rest
invariant-loop-rest l = GroupsSoFar l.number l.rest l.fn.out.items l.out.items × ((front : List ℕ) → Grows front l.fn.out.items → Grows front l.out.items)

abbrev pub decreases-loop-rest : goal.decreases-loop-rest
decreases-loop-rest l = l.rest
