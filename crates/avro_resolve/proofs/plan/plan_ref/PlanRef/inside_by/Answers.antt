use Rattle.std.proofs.Common.{subst}
use Rattle.std.specs.Prelude.{IfSome}
use Rattle.avro_schema.specs.Node.{node_at}
use Rattle.avro_schema.specs.SeenSchema.{schema_nodes}
use Rattle.avro_schema.specs.declared.schema.NodeId.{NodeId}
use Rattle.avro_compare.specs.Planned.{AreInside}
use Rattle.avro_resolve.proofs.plan.plan_ref.PlanRef.inside_by.Goals as goal

pub returns-in-Some : goal.returns-in-Some
returns-in-Some c =
    let writer = schema_nodes c.args.self.now.0 in
    let reader = schema_nodes c.args.self.now.1 in
    let found = c.in-Some.ensures in
    subst (λ (w : NodeId). IfSome c.inside_of.result (λ p. AreInside (node_at writer w.0) (node_at reader c.args.q.0) p.now)) found.1
    (subst (λ (r : NodeId). IfSome c.inside_of.result (λ p. AreInside (node_at writer c.in-Some.pair.now.w.0) (node_at reader r.0) p.now)) found.2
    (c.inside_of.ensures writer reader found.0))
