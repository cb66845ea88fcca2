use Rattle.std.proofs.Common.{subst}
use Rattle.avro_schema.specs.Node.{node_at}
use Rattle.avro_resolve.specs.inside.Guided.{StandsAs}
use Rattle.avro_resolve.proofs.Knowing.{known_next, known_then, on_both}
use Rattle.avro_resolve.proofs.resolving.record_maker.fill_next.Goals as goal

pub returns : goal.returns
returns g c = λ told writer reader nodes fs id at vs v h is stands.
    let fields = c.args.fields.now in
    let here = known_next writer reader fields.known fields.parts.now fields.slots h.1 in
    on_both _ _ c.put_field.result
    (c.put_field.ensures.stands told writer reader nodes fs id at vs v h.0 is (subst (λ x. StandsAs (g.M.Make.stands_for c.args.maker.now) writer reader nodes (node_at nodes id) x c.args.made v) here stands))
    (c.put_field.ensures.known writer reader _ (known_then writer reader fields.known _ fields.slots c.next_index-field.result c.next_index-field.ensures c.known_after-fields.ensures h.1))
