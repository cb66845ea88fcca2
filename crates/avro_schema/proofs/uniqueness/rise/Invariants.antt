use Rattle.std.proofs.Common.{◌≡◌, Less}
use Rattle.std.specs.List.{AllAdjacentBelow}
use Rattle.avro_schema.proofs.uniqueness.rise.Given as goal

abbrev pub invariant-loop-i : goal.invariant-loop-i
invariant-loop-i g l = AllAdjacentBelow (λ x y. g.T.Ord.cmp x y ≡ Less) l.items l.i
