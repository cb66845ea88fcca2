use Rattle.std.proofs.Common.{◌≡◌, ◌<◌, ◌/◌, ℕ, Some, None, length, slice_get}
use Rattle.indexmap.specs.IndexSet.{keys}
use Rattle.avro_schema.specs.SeenSchema.{schema_nodes}
use Rattle.avro_least.specs.Asked.{asked_at}
use Rattle.avro_least.specs.SeenLeast.{table_of}
use Rattle.avro_least.specs.inside.Parts.{value_alone}
use Rattle.avro_least.proofs.pairs.search.has_failing.Given as goal

abbrev pub invariant-loop-i : goal.invariant-loop-i
invariant-loop-i l = (k key : ℕ) → k < l.i → slice_get (keys l.reached.known) k ≡ Some key
    → value_alone (table_of l.table) (key / length (schema_nodes l.reader)) (asked_at (schema_nodes l.writer) (schema_nodes l.reader) key) ≡ None
