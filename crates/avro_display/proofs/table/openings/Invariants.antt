use Rattle.std.proofs.Common.{◌≡◌, length}
use Rattle.avro_schema.specs.SeenSchema.{schema_nodes}
use Rattle.avro_display.specs.inside.Tables.{Holds, IsOpening}
use Rattle.avro_display.proofs.table.openings.Given as goal

abbrev pub invariant-loop-index : goal.invariant-loop-index
invariant-loop-index l = (length l.openings.items ≡ l.index) × Holds (IsOpening (schema_nodes l.schema)) l.openings.items
