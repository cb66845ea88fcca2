use Rattle.std.proofs.Common.{◌≡◌, true, refl, sym, subst, ◌∙◌}
use Rattle.std.specs.Prelude.{IfOk, unwrap_or}
use Rattle.avro_schema.specs.Fits.{fits}
use Rattle.avro_schema.specs.Node.{node_at}
use Rattle.avro_schema.specs.Seen.{field_of}
use Rattle.avro_schema.specs.SeenSchema.{schema_nodes}
use Rattle.avro_schema.specs.Value.{Value}
use Rattle.avro_resolve.specs.inside.Guided.{of_node}
use Rattle.avro_resolve.proofs.Slots.{rest_kept, rest_same, value_held, value_missing, value_default}
use Rattle.avro_resolve.proofs.resolving.slots.value_of_field.Goals as goal

pub returns-in-Some-taken-clause-stands : goal.returns-in-Some-taken-clause-stands
returns-in-Some-taken-clause-stands g c = λ ws found rest src fit distinct h.
    let S = of_node (g.M.Make.stands_for c.args.maker.now) (schema_nodes c.args.reader.now) in
    let f = field_of c.args.f.now in
    let e = sym src ∙ c.in-Some.is in (
      rest_kept S ws found f rest c.in-Some.index _ _ e distinct c.taken.ensures.others h,
      value_held S ws found f rest c.in-Some.index _ c.in-Some-taken.out e (sym c.in-Some-taken.ensures.this) h,
    )

pub returns-in-None-taken-clause-stands : goal.returns-in-None-taken-clause-stands
returns-in-None-taken-clause-stands g c = λ ws found rest src fit distinct h.
    let nodes = schema_nodes c.args.reader.now in
    let S = of_node (g.M.Make.stands_for c.args.maker.now) nodes in
    let f = field_of c.args.f.now in
    let n = node_at nodes f.node in
    let e = sym src ∙ c.in-Some.is in
    let null = value_missing S ws found f rest c.in-Some.index _ e (sym c.in-None-taken.ensures.this) h in (
      rest_kept S ws found f rest c.in-Some.index _ _ e distinct c.taken.ensures.others h,
      subst (λ v. IfOk c.leaf.result (λ out. of_node (g.M.Make.stands_for c.leaf.new.self) nodes f.node out v)) (sym null)
          (subst (λ at. IfOk c.leaf.result (λ out. g.M.Make.stands_for c.leaf.new.self nodes n at out Value.null)) c.of.ensures
          (c.leaf.ensures.stands nodes n (subst (λ v. fits nodes n v ≡ true) null fit))),
    )

pub returns-in-None-clause-stands : goal.returns-in-None-clause-stands
returns-in-None-clause-stands g c = λ ws found rest src fit distinct h.
    let nodes = schema_nodes c.args.reader.now in
    let S = of_node (g.M.Make.stands_for c.args.maker.now) nodes in
    let f = field_of c.args.f.now in
    let same = value_default S ws found f rest f.default (sym src ∙ c.in-None.is) refl in (
      rest_same S ws found f rest _ h,
      subst (λ v. IfOk c.make_default.result (λ out. of_node (g.M.Make.stands_for c.make_default.new.maker) nodes f.node out v)) (sym same)
          (c.make_default.ensures.stands (subst (λ v. fits nodes (node_at nodes f.node) v ≡ true) same fit)),
    )
