use Rattle.std.proofs.Common.{ap, sym, ◌∙◌}
use Rattle.std.proofs.lemmas.Result.{IfOk-weaker}
use Rattle.avro_compare.specs.inside.TypeNames.{holds, is_number, is_text}
use Rattle.avro_compare.proofs.HeldAliases.{not_simple, not_space, both_numbered}
use Rattle.avro_compare.proofs.reader_types.add_alias.Goals as goal

pub returns-in-None : goal.returns-in-None
returns-in-None c = λ key b.
    not_simple c.args.texts.now c.args.alias.now key c.args.id b (holds c.args.sets.now key b)
    (ap (is_number key.0) (sym c.in-None.is) ∙ c.number.ensures key.0 ∙ ap (is_text c.args.texts.now key.0) c.simple.ensures.part)

pub returns-in-None-space_number : goal.returns-in-None-space_number
returns-in-None-space_number c = λ key b.
    not_space c.args.texts.now c.args.alias.now key c.args.id b (holds c.args.sets.now key b)
    (ap (is_number key.1) (sym c.in-None-space_number.is) ∙ c.space_number.ensures key.1 ∙ ap (is_text c.args.texts.now key.1) c.namespace.ensures.part)

pub returns-in-Some-space_number : goal.returns-in-Some-space_number
returns-in-Some-space_number c =
    IfOk-weaker c.add_id.result _ _
    (λ done put. λ key b.
    both_numbered c.args.texts.now c.args.alias.now key c.args.id b (holds c.args.sets.now key b) c.in-Some.simple c.in-Some-space_number.space (holds c.add_id.new.sets key b)
    (ap (is_number key.0) (sym c.in-Some.is) ∙ c.number.ensures key.0 ∙ ap (is_text c.args.texts.now key.0) c.simple.ensures.part)
    (ap (is_number key.1) (sym c.in-Some-space_number.is) ∙ c.space_number.ensures key.1 ∙ ap (is_text c.args.texts.now key.1) c.namespace.ensures.part)
    (put key b))
    c.add_id.ensures
