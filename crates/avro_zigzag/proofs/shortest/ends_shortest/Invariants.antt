use Rattle.std.proofs.Common.{◌≡◌, true, take}
use Rattle.avro_zigzag.specs.NumberFault.{go_on}
use Rattle.avro_zigzag.proofs.shortest.ends_shortest.Given as goal

-- the number goes on after each byte so far
abbrev pub invariant-loop-byte : goal.invariant-loop-byte
invariant-loop-byte l = go_on (take l.byte-index l.bytes) ≡ true
