use Rattle.std.proofs.Common.{◌≡◌, sym, subst, rules}
use Rattle.std.specs.Prelude.{IfSome}
use Rattle.avro_schema.specs.Node.{node_at}
use Rattle.avro_schema.specs.SeenSchema.{schema_nodes}
use Rattle.avro_schema.specs.declared.schema.NodeId.{NodeId}
use Rattle.avro_compare.specs.Planned.{AreInside}
use Rattle.avro_resolve.proofs.plan.plan_ref.PlanRef.inside.Goals as goal

pub returns-in-Some : goal.returns-in-Some
returns-in-Some c =
    let writer = c.self.inside.writer.now in
    let reader = c.self.inside.reader.now in
    let here : c.args.self.now ≡ (writer, reader) = search rules in
    let found = c.in-Some.ensures (schema_nodes writer) (schema_nodes reader) c.self.invariant.0 in
    subst (λ s. IfSome c.inside_of.result (λ p. AreInside (node_at (schema_nodes s.0) c.args.w.0) (node_at (schema_nodes s.1) c.args.q.0) p.now)) (sym here)
    (subst (λ (w : NodeId). IfSome c.inside_of.result (λ p. AreInside (node_at (schema_nodes writer) w.0) (node_at (schema_nodes reader) c.args.q.0) p.now)) found.1
    (subst (λ (r : NodeId). IfSome c.inside_of.result (λ p. AreInside (node_at (schema_nodes writer) c.in-Some.pair.now.w.0) (node_at (schema_nodes reader) r.0) p.now)) found.2
    (c.inside_of.ensures (schema_nodes writer) (schema_nodes reader) found.0)))
