use Rattle.std.proofs.Common.{◌≡◌, ◌≤◌, length, take}
use Rattle.avro_c.proofs.Pieces.{Copied}
use Rattle.avro_c.proofs.buffer.put_all.Given as goal

-- the front of the text is left, and what was behind it is copied
abbrev pub invariant-loop-text : goal.invariant-loop-text
invariant-loop-text l =
    let text = l.initial.text.items in
    (length l.text.items ≤ length text) × (l.text.items ≡ take (length l.text.items) text) × Copied text l.fn.out l.out (length l.text.items)

abbrev pub decreases-loop-text : goal.decreases-loop-text
decreases-loop-text l = length l.text.items
