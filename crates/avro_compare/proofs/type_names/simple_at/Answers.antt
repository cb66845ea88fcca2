use Rattle.std.proofs.Common.{ap, sym, ◌∙◌}
use Rattle.avro_compare.specs.inside.TypeNames.{has_own}
use Rattle.avro_compare.proofs.type_names.simple_at.Goals as goal

pub returns-in-None : goal.returns-in-None
returns-in-None c = λ i. ap (has_own c.args.texts.now i) (sym c.in-None.is ∙ c.type_at.ensures)

pub returns-in-Some : goal.returns-in-Some
returns-in-Some c = λ i. c.simple_of.ensures i ∙ ap (has_own c.args.texts.now i) (sym c.in-Some.is ∙ c.type_at.ensures)
