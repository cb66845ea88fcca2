use Rattle.std.proofs.Common.{◌≤◌}
use Rattle.avro_schema.specs.Seen.{value_of}
use Rattle.avro_schema.specs.Value.{Value, depth}
use Rattle.avro_show.specs.Showing.{IsWritten}
use Rattle.avro_show.proofs.opening.out_of_unions.Given as goal

abbrev pub invariant-loop-branch : goal.invariant-loop-branch
invariant-loop-branch l = ((u : Value) → IsWritten l.fn.plan l.fn.pair (value_of l.fn.datum) u → IsWritten l.fn.plan l.at (value_of l.inner) u)
    × (depth (value_of l.inner) ≤ depth (value_of l.fn.datum))

abbrev pub decreases-loop-branch : goal.decreases-loop-branch
decreases-loop-branch l = depth (value_of l.inner)
