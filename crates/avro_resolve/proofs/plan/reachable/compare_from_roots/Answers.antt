use Rattle.std.proofs.Common.{length, refl}
use Rattle.avro_schema.specs.SeenSchema.{schema_nodes}
use Rattle.avro_compare.specs.Planned.{IsComparison}
use Rattle.avro_compare.proofs.public.Planning.{holds_push}
use Rattle.avro_resolve.proofs.plan.reachable.compare_from_roots.Goals as goal

pub loop-round-preserved : goal.loop-round-preserved
loop-round-preserved c =
    let before = c.loop-round.kept.items in
    (holds_push (λ k p. IsComparison (schema_nodes c.args.names.now.0) (schema_nodes c.args.names.now.1) p) before c.push-in-Some.new.self.items c.in_ok-comparison-in-Some.comparison (length before)
    c.in_ok-push-in-Some-2.ensures.items (c.loop-round.invariant, refl) c.in_ok-comparison-in-Some.ensures.0).0
