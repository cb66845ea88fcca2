use Rattle.std.proofs.Common.{◌≡◌, ◌<◌, ℕ, Some, slice_get}
use Rattle.avro_schema.specs.Seen.{ids_of}
use Rattle.avro_least.specs.SeenLeast.{seen, table_of}
use Rattle.avro_least.proofs.datum.least.best_index.Given as goal

abbrev pub invariant-loop-i : goal.invariant-loop-i
invariant-loop-i l = (j p : ℕ) → j < l.i → slice_get (ids_of l.ids) j ≡ Some p → table_of l.table p ≡ seen l.best → ⊥
