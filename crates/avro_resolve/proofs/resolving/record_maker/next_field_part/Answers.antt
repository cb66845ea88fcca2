use Rattle.std.proofs.Common.{◌≡◌, ◌∙◌, length, subst, rules}
use Rattle.std.specs.Prelude.{slice_get}
use Rattle.std.specs.Vec.{vec_len}
use Rattle.avro_schema.specs.Node.{node_at}
use Rattle.avro_schema.specs.SeenSchema.{schema_nodes}
use Rattle.avro_compare.specs.Pairs.{field_for}
use Rattle.avro_compare.specs.Resolve.{fields_at}
use Rattle.avro_resolve.specs.inside.Guided.{kept_or, known_part, part_below}
use Rattle.avro_resolve.proofs.resolving.record_maker.next_field_part.Goals as goal

pub returns-in-Good : goal.returns-in-Good
returns-in-Good g c =
    let of_writer = fields_at (node_at (schema_nodes c.args.plan.now.0) c.in-Good.w.0) in
    let of_reader = fields_at (node_at (schema_nodes c.args.plan.now.1) c.in-Good.q.0) in
    let counted : vec_len c.in-Good.slots ≡ length c.in-Good.slots.items = search rules in
    rw c.in-Good.is (subst (λ k. part_below c.field.result c.index_at.result ≡ part_below (known_part c.args.known k (field_for of_writer of_reader k)) (kept_or (slice_get c.args.parts.now 0) 0))
    (c.len-field.ensures ∙ counted) (λ i. part_below (c.field.ensures i) (c.index_at.ensures i)))
