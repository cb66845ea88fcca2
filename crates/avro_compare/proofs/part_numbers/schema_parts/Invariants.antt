use Rattle.std.proofs.Common.{◌≡◌, length}
use Rattle.avro_schema.specs.SeenSchema.{schema_nodes}
use Rattle.avro_compare.specs.inside.PartNumbers.{AreParts, Grows, KeepsLists}
use Rattle.avro_compare.proofs.part_numbers.schema_parts.Given as goal

abbrev pub invariant-loop-index : goal.invariant-loop-index
invariant-loop-index l =
    (AreParts l.texts l.for_fields.items l.for_symbols.items (schema_nodes l.schema) l.all.items × (length l.all.items ≡ l.index)) × Grows l.fn.texts l.texts
    × KeepsLists l.fn.for_fields.items l.for_fields.items × KeepsLists l.fn.for_symbols.items l.for_symbols.items
