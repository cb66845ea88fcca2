use Rattle.std.proofs.Common.{◌≡◌, [], rules}
use Rattle.avro_schema.specs.SeenSchema.{schema_nodes}
use Rattle.avro_compare.specs.Planned.{IsComparison}
use Rattle.avro_compare.proofs.public.Planning.{holds_none, holds_push}
use Rattle.avro_compare.proofs.comparing.compare_each.Goals as goal

pub loop-pair-init : goal.loop-pair-init
loop-pair-init c =
    let none : c.new-kept.result.items ≡ [] = search rules in
    holds_none (λ k p. IsComparison (schema_nodes c.args.names.now.0) (schema_nodes c.args.names.now.1) p) none

pub loop-pair-preserved : goal.loop-pair-preserved
loop-pair-preserved c =
    holds_push (λ k p. IsComparison (schema_nodes c.args.names.now.0) (schema_nodes c.args.names.now.1) p) c.loop-pair.kept.items c.push.new.self.items c.in_ok-comparison.comparison c.loop-pair.pair-index
    c.in_ok-push.ensures.items c.loop-pair.invariant c.in_ok-comparison.ensures.0

pub returns : goal.returns
returns c = c.loop-pair.invariant.0
