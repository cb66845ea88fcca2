use Rattle.std.proofs.Common.{◌≡◌, ◌∙◌, [], refl, rules, arith}
use Rattle.avro_compare.specs.declared.comparison.At.TheVariants.{Ignored}
use Rattle.avro_compare.proofs.public.Planning.{holds_none, holds_push}
use Rattle.avro_compare.proofs.comparing.all_ignored.Goals as goal

pub loop-part-init : goal.loop-part-init
loop-part-init c =
    let none : c.in_ok-found.found.items ≡ [] = search rules in
    holds_none (λ k at. at ≡ Ignored) none

pub loop-part-preserved : goal.loop-part-preserved
loop-part-preserved c =
    holds_push (λ k at. at ≡ Ignored) c.loop-part.found.items c.push.new.self.items Ignored c.loop-part._part c.in_ok-push.ensures.items c.loop-part.invariant refl

pub returns : goal.returns
returns c = record { ignored = c.loop-part.invariant.0; all = c.loop-part.invariant.1 ∙ omega (arith, c.loop-part-test.false, c.loop-part.auto._part-end) }
