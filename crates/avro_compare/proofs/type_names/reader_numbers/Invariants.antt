use Rattle.std.proofs.Common.{◌≡◌, length}
use Rattle.avro_schema.specs.SeenSchema.{schema_nodes}
use Rattle.avro_compare.specs.inside.TypeNames.{AreOfReader}
use Rattle.avro_compare.proofs.type_names.reader_numbers.Given as goal

abbrev pub invariant-loop-index : goal.invariant-loop-index
invariant-loop-index l = AreOfReader l.texts (schema_nodes l.reader) l.numbers.items × (length l.numbers.items ≡ l.index)
