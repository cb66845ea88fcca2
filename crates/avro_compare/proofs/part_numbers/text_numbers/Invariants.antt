use Rattle.avro_schema.specs.Seen.{texts_of}
use Rattle.avro_compare.specs.inside.PartNumbers.{Grows}
use Rattle.avro_compare.proofs.NumberedNames.{AreBefore}
use Rattle.avro_compare.proofs.part_numbers.text_numbers.Given as goal

abbrev pub invariant-loop-index : goal.invariant-loop-index
invariant-loop-index l = AreBefore l.texts (texts_of l.names) l.index l.numbers.items × Grows l.fn.texts l.texts
