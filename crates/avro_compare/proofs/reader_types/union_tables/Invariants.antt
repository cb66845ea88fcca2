use Rattle.std.proofs.Common.{◌≡◌, length}
use Rattle.avro_schema.specs.SeenSchema.{schema_nodes}
use Rattle.avro_compare.specs.inside.TypeNames.{AreUnionTables}
use Rattle.avro_compare.proofs.reader_types.union_tables.Given as goal

abbrev pub invariant-loop-index : goal.invariant-loop-index
invariant-loop-index l = AreUnionTables l.texts (schema_nodes l.reader) l.tables.items × (length l.tables.items ≡ l.index)
