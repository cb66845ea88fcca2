use Rattle.std.proofs.Common.{◌∙◌, arith}
use Rattle.avro_schema.specs.Seen.{field_of}
use Rattle.avro_resolve.proofs.plan.plan_pair.PlanPair.source.Goals as goal

pub returns-in-Some : goal.returns-in-Some
returns-in-Some c = λ there. c.source_at.ensures c.in-Some.ensures.0 ∙ c.in-Some.ensures.1 c.args.index (field_of c.args.field.now) (omega arith) there
