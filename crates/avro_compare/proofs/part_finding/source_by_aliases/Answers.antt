use Rattle.std.proofs.Common.{◌∙◌, ap}
use Rattle.std.specs.Prelude.{slice_get}
use Rattle.avro_compare.specs.inside.PartNumbers.{Lists, first_number}
use Rattle.avro_compare.proofs.NumberedNames.{first_place}
use Rattle.avro_compare.proofs.part_finding.source_by_aliases.Goals as goal

pub returns-then-writes-names : goal.returns-then-writes-names
returns-then-writes-names c = λ writes names tabled fields aliases.
    c.first_among.ensures aliases.list.items (tabled.1 c.args.aliases aliases.list aliases.there)
    ∙ ap (λ list. first_number list aliases.list.items) (c.list_at-writes.ensures fields.list (ap (λ (lists : Lists). slice_get lists c.args.fields) c.deref.ensures.value ∙ fields.there))
    ∙ first_place c.args.numbers.now.texts tabled.0 writes fields.list.items fields.are names aliases.list.items aliases.are

pub returns-else-writes-names : goal.returns-else-writes-names
returns-else-writes-names c = λ writes names tabled fields aliases.
    c.first_named.ensures fields.list.items (tabled.1 c.args.fields fields.list fields.there)
    ∙ ap (λ list. first_number fields.list.items list) (c.list_at-names.ensures aliases.list (ap (λ (lists : Lists). slice_get lists c.args.aliases) c.deref-2.ensures.value ∙ aliases.there))
    ∙ first_place c.args.numbers.now.texts tabled.0 writes fields.list.items fields.are names aliases.list.items aliases.are
