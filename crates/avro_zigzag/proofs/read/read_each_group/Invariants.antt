use Rattle.std.proofs.Common.{◌≡◌, ◌<◌, true, take}
use Rattle.avro_zigzag.specs.Number.{groups_value}
use Rattle.avro_zigzag.specs.NumberFault.{go_on}
use Rattle.avro_zigzag.proofs.read.read_each_group.Given as goal

-- the number goes on after each byte so far
abbrev pub invariant-loop-index : goal.invariant-loop-index
invariant-loop-index l =
    (l.index < l.most) × (go_on (take l.index l.bytes) ≡ true) × (l.value ≡ groups_value (take l.index l.bytes))
