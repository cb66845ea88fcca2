use Rattle.std.proofs.Common.{◌∙◌}
use Rattle.avro_compare.proofs.NumberedNames.{place_is}
use Rattle.avro_compare.proofs.part_finding.symbol_by_numbers.Goals as goal

pub returns : goal.returns
returns c = λ reads symbol tabled has.
    let found = c.args.found in
    c.place.ensures ∙ tabled.1 found.symbols has.symbols.list has.symbols.there found.symbol
    ∙ place_is c.args.numbers.now.texts tabled.0 found.symbol symbol reads has.symbols.list.items has.symbol has.symbols.are
