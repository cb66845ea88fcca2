use Rattle.std.proofs.Common.{◌≡◌, length}
use Rattle.avro_schema.specs.SeenSchema.{schema_nodes}
use Rattle.avro_compare.specs.inside.PartNumbers.{AreAliases, Grows, KeepsLists}
use Rattle.avro_compare.proofs.part_numbers.schema_aliases.Given as goal

abbrev pub invariant-loop-index : goal.invariant-loop-index
invariant-loop-index l =
    (AreAliases l.texts l.lists.items (schema_nodes l.schema) l.all.items × (length l.all.items ≡ l.index)) × Grows l.fn.texts l.texts × KeepsLists l.fn.lists.items l.lists.items
