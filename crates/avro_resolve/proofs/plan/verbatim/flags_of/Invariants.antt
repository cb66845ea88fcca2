use Rattle.std.proofs.Common.{◌≡◌, length}
use Rattle.avro_schema.specs.SeenSchema.{schema_nodes}
use Rattle.avro_resolve.specs.Copied.{AreFlags}
use Rattle.avro_resolve.proofs.plan.verbatim.flags_of.Given as goal

abbrev pub invariant-loop-index : goal.invariant-loop-index
invariant-loop-index l = AreFlags (schema_nodes l.writer) (schema_nodes l.reader) l.pairs l.flags.items × (length l.flags.items ≡ l.index)
