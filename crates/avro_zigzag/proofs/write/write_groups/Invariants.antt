use Rattle.std.proofs.Common.{◌≡◌, ℕ, ◌*◌, ◌^◌, ◌<◌, ◌≤◌, List, ◌++◌, length, take, get_or}
use Rattle.avro_zigzag.specs.Number.{AreLeastGroups}
use Rattle.avro_zigzag.proofs.write.write_groups.Given as goal

-- what spells the rest spells the number behind the bytes so far
abbrev pub invariant-loop-rest : goal.invariant-loop-rest
invariant-loop-rest l =
    (l.len < 10) × (length l.bytes ≡ 10) × (l.rest * 128 ^ l.len ≤ l.number)
    × ((tail : List ℕ) → AreLeastGroups l.rest tail → AreLeastGroups l.number (take l.len l.bytes ++ tail))
    × ((k : ℕ) → l.len ≤ k → get_or l.bytes k 0 ≡ 0)

abbrev pub decreases-loop-rest : goal.decreases-loop-rest
decreases-loop-rest l = l.rest
