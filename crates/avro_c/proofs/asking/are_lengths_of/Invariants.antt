use Rattle.std.proofs.Common.{◌≡◌, ◌+◌, length, sum, drop}
use Rattle.avro_c.proofs.asking.are_lengths_of.Given as goal

-- what is left of the texts is short of all of them by the lengths that are done
abbrev pub invariant-loop-part : goal.invariant-loop-part
invariant-loop-part l = length l.fn.texts + sum (drop l.part-index l.lengths) ≡ l.left + sum l.fn.lengths
