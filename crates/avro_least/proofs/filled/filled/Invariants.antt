use Rattle.std.proofs.Common.{◌≡◌, replicate}
use Rattle.avro_least.proofs.filled.filled.Given as goal

abbrev pub invariant-loop-done : goal.invariant-loop-done
invariant-loop-done t l = l.values.items ≡ replicate l.done l.value
