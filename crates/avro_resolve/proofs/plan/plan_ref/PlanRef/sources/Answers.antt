use Rattle.std.proofs.Common.{sym, subst}
use Rattle.avro_schema.specs.Node.{node_at}
use Rattle.avro_schema.specs.SeenSchema.{schema_nodes}
use Rattle.avro_compare.specs.Planned.{AreSources}
use Rattle.avro_compare.specs.Resolve.{fields_at}
use Rattle.avro_resolve.proofs.plan.plan_ref.PlanRef.sources.Goals as goal

pub returns-in-Some : goal.returns-in-Some
returns-in-Some c =
    subst (λ kept. AreSources (fields_at (node_at (schema_nodes c.args.self.now.0) c.args.w.0)) (fields_at (node_at (schema_nodes c.args.self.now.1) c.args.q.0)) kept) (sym c.deref.ensures.value)
    c.in-Some.ensures.sources
