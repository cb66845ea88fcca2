use Rattle.std.proofs.Common.{sym, subst, ◌∙◌}
use Rattle.std.specs.Prelude.{IfOk}
use Rattle.avro_compare.specs.inside.TypeNames.{IsFull}
use Rattle.avro_compare.proofs.type_names.add_type.Goals as goal

pub returns-in-Some-clause-numbered : goal.returns-in-Some-clause-numbered
returns-in-Some-clause-numbered c =
    subst (λ t. IfOk c.add_names.result (λ found. IsFull c.add_names.new.texts t found)) (sym c.in-Some.is ∙ c.type_at.ensures) c.add_names.ensures.numbered
