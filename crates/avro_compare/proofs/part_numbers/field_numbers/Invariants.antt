use Rattle.avro_schema.specs.Seen.{seen_fields}
use Rattle.avro_compare.specs.inside.PartNumbers.{Grows, names_of}
use Rattle.avro_compare.proofs.NumberedNames.{AreBefore}
use Rattle.avro_compare.proofs.part_numbers.field_numbers.Given as goal

abbrev pub invariant-loop-index : goal.invariant-loop-index
invariant-loop-index l = AreBefore l.texts (names_of (seen_fields l.fields)) l.index l.numbers.items × Grows l.fn.texts l.texts
