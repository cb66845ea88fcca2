use Rattle.std.proofs.Common.{◌≡◌, sym, subst, rules}
use Rattle.std.specs.Prelude.{IfSome}
use Rattle.avro_schema.specs.SeenSchema.{schema_nodes}
use Rattle.avro_resolve.specs.inside.Guided.{IsWhole}
use Rattle.avro_resolve.proofs.plan.plan_ref.PlanRef.whole.Goals as goal

pub returns : goal.returns
returns c =
    let writer = c.self.inside.writer.now in
    let reader = c.self.inside.reader.now in
    let here : c.args.self.now ≡ (writer, reader) = search rules in
    subst (λ s. IfSome c.whole_kept.result (λ known. IsWhole (schema_nodes s.0) (schema_nodes s.1) c.args.w c.args.r known.now)) (sym here)
    (c.whole_kept.ensures (schema_nodes writer) (schema_nodes reader) c.self.invariant.0)
