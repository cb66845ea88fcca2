use Rattle.std.proofs.Common.{◌≡◌, length}
use Rattle.avro_schema.specs.SeenSchema.{schema_nodes}
use Rattle.avro_compare.specs.inside.TypeNames.{AreOfWriter}
use Rattle.avro_compare.proofs.type_names.writer_numbers.Given as goal

abbrev pub invariant-loop-index : goal.invariant-loop-index
invariant-loop-index l = AreOfWriter l.texts (schema_nodes l.writer) l.numbers.items × (length l.numbers.items ≡ l.index)
