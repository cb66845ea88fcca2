use Rattle.std.proofs.Common.{◌∙◌, ap, sym}
use Rattle.avro_compare.specs.Source.{is_index}
use Rattle.avro_compare.proofs.sourcing.takes.Goals as goal

pub returns-in-Some : goal.returns-in-Some
returns-in-Some c = ap (λ o. is_index o c.args.field) (sym c.in-Some.is ∙ c.source_among.ensures)

pub returns-in-None : goal.returns-in-None
returns-in-None c = ap (λ o. is_index o c.args.field) (sym c.in-None.is ∙ c.source_among.ensures)
