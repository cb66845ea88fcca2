use Rattle.std.proofs.Common.{◌∙◌, ap}
use Rattle.avro_schema.specs.SeenSchema.{schema_nodes}
use Rattle.avro_compare.specs.Pairs.{target_at}
use Rattle.avro_resolve.proofs.plan.plan_ref.PlanRef.target_by.Goals as goal

pub returns-in-Some : goal.returns-in-Some
returns-in-Some c =
    let writer = schema_nodes c.args.self.now.0 in
    let reader = schema_nodes c.args.self.now.1 in
    let kept = c.in-Some.ensures in
    kept.0.targets ∙ ap (λ n. target_at writer reader n c.in-Some.pair.now.r) kept.1 ∙ ap (λ n. target_at writer reader c.args.w n) kept.2
