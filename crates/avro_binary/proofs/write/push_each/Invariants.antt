use Rattle.std.proofs.Common.{◌≡◌, ◌++◌, length, take, drop}
use Rattle.avro_binary.proofs.write.push_each.Given as goal

-- the bytes that are left come after those written
abbrev pub invariant-loop-byte : goal.invariant-loop-byte
invariant-loop-byte l =
    (l.out.items ++ drop l.byte-index l.bytes ≡ l.fn.out.items ++ l.bytes) × (take (length l.fn.out.items) l.out.items ≡ l.fn.out.items)
