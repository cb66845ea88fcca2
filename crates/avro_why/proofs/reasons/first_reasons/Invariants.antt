use Rattle.std.proofs.Common.{◌≤◌, length}
use Rattle.avro_why.proofs.InOrder.{AreFirst}
use Rattle.avro_why.proofs.reasons.first_reasons.Given as goal

abbrev pub invariant-loop-offset : goal.invariant-loop-offset
invariant-loop-offset l = AreFirst l.fn.text l.offset-items l.offset-index l.first.items × (length l.first.items ≤ l.offset-index)
