use Rattle.std.proofs.Common.{ℕ, List}
use Rattle.avro_schema.specs.Node.{Node as SeenNode}
use Rattle.avro_schema.specs.Runs.{AreRuns}
use Rattle.avro_schema.proofs.runs.no_runs.Given as goal

abbrev pub invariant-loop-field : goal.invariant-loop-field
invariant-loop-field l = (nodes : List SeenNode) (ids : List ℕ) → AreRuns nodes ids l.runs.items
