use Rattle.std.proofs.Common.{◌≡◌, true, drop}
use Rattle.avro_name.specs.inside.Scan.{first_fault}
use Rattle.avro_name.proofs.check.first_fault.Given as goal

-- the fault of what is left is that of the whole text
abbrev pub invariant-loop-byte : goal.invariant-loop-byte
invariant-loop-byte l = first_fault l.begins (drop l.byte-index l.text) ≡ first_fault true l.text
