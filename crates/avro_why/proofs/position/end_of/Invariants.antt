use Rattle.std.proofs.Common.{◌≤◌, ◌+◌, take}
use Rattle.avro_why.specs.Position.{EndsAt}
use Rattle.avro_why.proofs.position.end_of.Given as goal

abbrev pub invariant-loop-byte : goal.invariant-loop-byte
invariant-loop-byte l = EndsAt (take l.byte-index l.text) l.line l.column × (l.line ≤ l.byte-index + 1) × (l.column ≤ l.byte-index + 1)
