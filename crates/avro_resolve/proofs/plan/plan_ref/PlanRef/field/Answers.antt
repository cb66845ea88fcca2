use Rattle.std.proofs.Common.{◌≡◌, ◌∙◌, ap, sym, subst, rules}
use Rattle.avro_schema.specs.Node.{node_at}
use Rattle.avro_schema.specs.Seen.{seen_fields}
use Rattle.avro_schema.specs.SeenSchema.{schema_nodes}
use Rattle.avro_compare.specs.Pairs.{field_for}
use Rattle.avro_compare.specs.Resolve.{fields_at}
use Rattle.avro_resolve.specs.inside.Guided.{known_part}
use Rattle.avro_resolve.proofs.plan.plan_ref.PlanRef.field.Goals as goal

pub returns-in-None : goal.returns-in-None
returns-in-None c =
    let here : c.args.self.now ≡ (c.self.inside.writer.now, c.self.inside.reader.now) = search rules in
    let writes = fields_at (node_at (schema_nodes c.self.inside.writer.now) c.args.w.0) in
    let reads = fields_at (node_at (schema_nodes c.self.inside.reader.now) c.args.q.0) in
    let f = c.args.field in
    subst (λ s. c.part_for.result ≡ known_part c.args.known f (field_for (fields_at (node_at (schema_nodes s.0) c.args.w.0)) (fields_at (node_at (schema_nodes s.1) c.args.q.0)) f)) (sym here)
    (c.part_for.ensures ∙ ap (λ fs. field_for fs (seen_fields c.fields_of-in-None.result.now) f) c.fields_of.ensures.seen ∙ ap (λ fs. field_for writes fs f) c.fields_of-in-None.ensures.seen
    ∙ ap (λ o. known_part o f (field_for writes reads f)) (sym c.in-None.is))
