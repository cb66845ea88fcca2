use Rattle.std.proofs.Common.{◌≡◌, Some, cond, ap, subst, sym, ◌∙◌}
use Rattle.std.specs.Ordering.{is_eq}
use Rattle.avro_compare.specs.inside.NamedTypes.{NamedType}
use Rattle.std.specs.BTreeMap.{get}
use Rattle.avro_compare.specs.inside.TypeNames.{key_cmp, is_number}
use Rattle.avro_compare.proofs.PlainBranches.{not_put, name_put}
use Rattle.avro_compare.proofs.reader_types.add_named.Goals as goal

pub returns-in-None : goal.returns-in-None
returns-in-None c = λ key.
    not_put c.args.texts.now c.args.named.now c.args.branch key (get key_cmp c.args.firsts.now key) (ap (is_number key.1) (sym c.in-None.is) ∙ c.simple_of.ensures key.1)

pub returns-in_ok-insert-in-Some : goal.returns-in_ok-insert-in-Some
returns-in_ok-insert-in-Some c = λ key.
    name_put c.args.texts.now c.args.named.now c.args.branch key (get key_cmp c.args.firsts.now key) c.in-Some.simple (get key_cmp c.insert.new.self key)
    (ap (is_number key.1) (sym c.in-Some.is) ∙ c.simple_of.ensures key.1)
    (subst (λ (t : NamedType). get key_cmp c.insert.new.self key ≡ cond (is_eq (key_cmp (t.kind, c.in-Some.simple) key)) (Some c.args.branch) (get key_cmp c.args.firsts.now key)) c.named.view_is
    (c.in_ok-insert-in-Some.ensures.updates.0 key))
