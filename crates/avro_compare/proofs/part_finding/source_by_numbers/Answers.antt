use Rattle.std.proofs.Common.{◌∙◌, ap, subst, sym}
use Rattle.avro_compare.specs.Source.{first_index, or_else}
use Rattle.avro_compare.specs.inside.PartNumbers.{HasOwn}
use Rattle.avro_compare.proofs.NumberedNames.{field_place}
use Rattle.avro_compare.proofs.part_finding.source_by_numbers.Goals as goal

pub returns-in-Some : goal.returns-in-Some
returns-in-Some c = λ writes field tabled has.
    let found = c.args.found in
    ap (λ o. or_else o (first_index writes field.aliases))
    (sym c.in-Some.is ∙ c.place.ensures ∙ tabled.1 found.fields has.fields.list has.fields.there found.name
    ∙ field_place c.args.numbers.now.texts tabled.0 found.name field.name writes has.fields.list.items has.name has.fields.are)

pub returns-in-Some-aliases : goal.returns-in-Some-aliases
returns-in-Some-aliases c = λ writes field tabled has.
    let numbers = c.args.numbers.now in
    let found = c.args.found in
    c.source_by_aliases.ensures writes field.aliases tabled has.fields (subst (λ o. HasOwn numbers.texts numbers.tabled.items o field.aliases) c.in-Some-aliases.is has.aliases)
    ∙ ap (λ o. or_else o (first_index writes field.aliases))
    (sym c.in-None.is ∙ c.place.ensures ∙ tabled.1 found.fields has.fields.list has.fields.there found.name
    ∙ field_place numbers.texts tabled.0 found.name field.name writes has.fields.list.items has.name has.fields.are)

pub returns-in-None-aliases : goal.returns-in-None-aliases
returns-in-None-aliases c = λ writes field tabled has.
    let numbers = c.args.numbers.now in
    let found = c.args.found in
    let none = subst (λ o. HasOwn numbers.texts numbers.tabled.items o field.aliases) c.in-None-aliases.is has.aliases in
    ap (first_index writes) (sym none)
    ∙ ap (λ o. or_else o (first_index writes field.aliases))
    (sym c.in-None.is ∙ c.place.ensures ∙ tabled.1 found.fields has.fields.list has.fields.there found.name
    ∙ field_place numbers.texts tabled.0 found.name field.name writes has.fields.list.items has.name has.fields.are)
