use Rattle.std.proofs.Common.{◌∙◌, arith}
use Rattle.avro_schema.specs.Seen.{seen_fields}
use Rattle.avro_compare.specs.inside.PartNumbers.{names_of}
use Rattle.avro_compare.proofs.FieldsNoted.{counted}
use Rattle.avro_compare.proofs.NumberedNames.{names_count, none_where}
use Rattle.avro_compare.proofs.part_numbers.list_fields.Goals as goal

pub returns-then-fields-eq0-clause-has : goal.returns-then-fields-eq0-clause-has
returns-then-fields-eq0-clause-has c =
    let fields = seen_fields c.args.fields.now in
    none_where (names_of fields) _ (names_count fields ∙ counted c.args.fields.now) (omega (arith, c.if-fields-eq0.true))

pub returns-clause-has : goal.returns-clause-has
returns-clause-has c = record { list = c.in_ok-numbers.numbers; there = c.in_ok-id.ensures.there; are = c.in_ok-numbers.ensures.has }
