use Rattle.std.proofs.Common.{ℕ, take, arith}
use Rattle.std.specs.List.Sorted.{IsNonDecreasingBy}
use Rattle.std.proofs.lemmas.List.Sorted.{IsNonDecreasingBy-take}
use Rattle.avro_why.proofs.InOrder.{first-same, first-more, placed-in-order}
use Rattle.avro_why.proofs.reasons.first_reasons.Goals.{in-Some+in_ok-reason_of+in_ok-push, in_default}
use Rattle.avro_why.proofs.reasons.first_reasons.Goals as goal

pub loop-offset-preserved : goal.loop-offset-preserved
loop-offset-preserved c =
    let text = c.args.text.now in
    let order = c.deref.result.now in
    let faults = take c.min.result order in
    let l = c.loop-offset in
    elim c.match-get.branch [
      | in-Some+in_ok-reason_of+in_ok-push w ↦
          let rising : IsNonDecreasingBy (λ (fault : ℕ × ℕ). fault.0) order = rw c.deref.ensures.value c.in_ok-order.ensures in (
            rw (w.first-is, w.in_ok-push.ensures.items) (
                first-more text faults l.offset-index l.first.items (0, 0) w.in_ok-reason_of.field-0 (IsNonDecreasingBy-take (λ (fault : ℕ × ℕ). fault.0) c.min.result order rising)
                c.loop-offset-test.true w.in_ok-reason_of.ensures l.invariant.0),
            rw w.first-is (omega (arith, l.invariant.1, w.in_ok-push.ensures.len)),
          )
      | in_default w ↦ rw w.first-is (first-same text faults l.offset-index l.first.items l.invariant.0, omega (arith, l.invariant.1))
    ]

pub returns-clause-placed : goal.returns-clause-placed
returns-clause-placed c = placed-in-order c.args.text.now _ _ _ c.loop-offset.invariant.0
