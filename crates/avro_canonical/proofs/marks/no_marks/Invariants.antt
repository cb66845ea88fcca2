use Rattle.std.proofs.Common.{◌≡◌, replicate, false}
use Rattle.avro_canonical.proofs.marks.no_marks.Given as goal

abbrev pub invariant-loop-id : goal.invariant-loop-id
invariant-loop-id l = l.marks.items ≡ replicate l.id false
