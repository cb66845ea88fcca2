use Rattle.std.proofs.Common.{◌≡◌, length}
use Rattle.avro_schema.specs.SeenSchema.{schema_nodes}
use Rattle.avro_display.specs.inside.Tables.{Holds, AreMembersAt}
use Rattle.avro_display.proofs.table.all_members.Given as goal

abbrev pub invariant-loop-index : goal.invariant-loop-index
invariant-loop-index l = (length l.lists.items ≡ l.index) × Holds (AreMembersAt (schema_nodes l.schema)) l.lists.items
