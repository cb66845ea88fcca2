use Rattle.std.proofs.Common.{◌≡◌, length}
use Rattle.avro_schema.specs.SeenSchema.{schema_nodes}
use Rattle.avro_least.specs.SeenLeast.{table_of}
use Rattle.avro_least.specs.inside.Parts.{AreOthers}
use Rattle.avro_least.proofs.pairs.parts.others.Given as goal

abbrev pub invariant-loop-i : goal.invariant-loop-i
invariant-loop-i l = record {
  one_each : length l.rows.items ≡ l.i;
  each : AreOthers (schema_nodes l.writer) l.limit (table_of l.table) l.i l.rows.items;
}
