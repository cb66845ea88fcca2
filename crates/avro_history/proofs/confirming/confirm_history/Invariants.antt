use Rattle.avro_history.proofs.ConfirmedSoFar.{ConfirmedSoFar}
use Rattle.avro_history.proofs.confirming.confirm_history.Given as goal

abbrev pub invariant-loop-i : goal.invariant-loop-i
invariant-loop-i l = ConfirmedSoFar l.writers l.reader l.certificates l.i l.approvals.items
