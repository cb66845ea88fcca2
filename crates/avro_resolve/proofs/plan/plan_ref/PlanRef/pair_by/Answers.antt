use Rattle.std.proofs.Common.{◌≡◌, sym, subst, rules}
use Rattle.std.specs.Prelude.{IfSome}
use Rattle.avro_schema.specs.SeenSchema.{schema_nodes}
use Rattle.avro_compare.specs.Planned.{IsComparison}
use Rattle.avro_resolve.proofs.plan.plan_ref.PlanRef.pair_by.Goals as goal

pub returns-in-Some : goal.returns-in-Some
returns-in-Some c =
    let writer = c.self.inside.writer.now in
    let reader = c.self.inside.reader.now in
    let here : c.args.self.now ≡ (writer, reader) = search rules in
    subst (λ s. IfSome c.pair_of.result (λ p. IsComparison (schema_nodes s.0) (schema_nodes s.1) p.now × (p.now.w ≡ c.args.w) × (p.now.r ≡ c.args.r))) (sym here)
    (c.pair_of.ensures (schema_nodes writer) (schema_nodes reader) c.self.invariant.0)
