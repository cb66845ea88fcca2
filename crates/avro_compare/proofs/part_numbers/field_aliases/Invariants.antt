use Rattle.std.proofs.Common.{◌≡◌, length}
use Rattle.avro_schema.specs.Seen.{seen_fields}
use Rattle.avro_compare.specs.inside.PartNumbers.{AreLists, Grows, KeepsLists, aliases_at}
use Rattle.avro_compare.proofs.part_numbers.field_aliases.Given as goal

abbrev pub invariant-loop-index : goal.invariant-loop-index
invariant-loop-index l =
    (AreLists l.texts l.lists.items (aliases_at (seen_fields l.fields)) l.ids.items × (length l.ids.items ≡ l.index)) × Grows l.fn.texts l.texts
    × KeepsLists l.fn.lists.items l.lists.items
