use Rattle.avro_resolve.proofs.plan.plan_ref.PlanRef.missing.Goals as goal

pub returns-in-Some : goal.returns-in-Some
returns-in-Some c = c.in-Some.ensures.complete
