use Rattle.std.proofs.Common.{ap, ◌∙◌}
use Rattle.avro_compare.specs.inside.NamedTypes.{NamedType}
use Rattle.avro_compare.specs.inside.TypeNames.{is_text}
use Rattle.avro_compare.proofs.type_names.simple_of.Goals as goal

pub returns : goal.returns
returns c = λ i. c.number.ensures i ∙ ap (is_text c.args.texts.now i) (c.simple.ensures.part ∙ ap (λ (t : NamedType). t.name.simple) c.named.view_is)
