use Rattle.std.proofs.Common.{◌≡◌}
use Rattle.avro_packed.proofs.resolving.append_resolved.Given as goal

-- a datum that was not appended left the output as it was
abbrev pub invariant-loop-sparing : goal.invariant-loop-sparing
invariant-loop-sparing l = l.out.items ≡ l.fn.out.items
