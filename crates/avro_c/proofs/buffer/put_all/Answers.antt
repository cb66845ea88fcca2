use Rattle.std.proofs.Common.{◌≡◌, ◌∙◌, ◌≤◌, ◌-◌, ℕ, ap, arith, length, length-take, rules, sym, subst, take}
use Rattle.std.proofs.lemmas.List.{length-take-le, take-take}
use Rattle.avro_c.proofs.Pieces.{Copied, front_copied, piece_last, piece_more}
use Rattle.avro_c.proofs.buffer.put_all.Goals as goal

pub loop-text-preserved : goal.loop-text-preserved
loop-text-preserved c =
    let before = c.args.out.now in
    let text = c.truncate.new.self.items in
    let left = c.loop-text.text.items in
    let (within, is, copied) = c.loop-text.invariant in
    let from = c.len-from.result - 1048576 in
    let less : from ≤ length left = search rules in
    let room : length left ≤ length before = omega (arith, within, ap length c.truncate.ensures.items, length-take (length before) c.args.text.items) in
    let then = c.shrink_to_fit.new.self.items in
    let kept : then ≡ take from left = c.shrink_to_fit.ensures.items ∙ c.truncate-in-loop-text.ensures.items in
    let more = piece_more text before c.loop-text.out (length left) within room copied from left c.put_from.new.out less is (rw c.deref.ensures.value at c.put_from.ensures) in
    subst (λ (k : ℕ). (k ≤ length text) × (then ≡ take k text) × Copied text before c.put_from.new.out k) (sym (ap length kept ∙ length-take-le from left less))
    (omega (arith, less, within), kept ∙ ap (take from) is ∙ take-take from (length left) text less, more)

pub returns : goal.returns
returns c =
    let before = c.args.out.now in
    let text = c.truncate.new.self.items in
    let left = c.loop-text.text.items in
    let (within, is, copied) = c.loop-text.invariant in
    let room : length left ≤ length before = omega (arith, within, ap length c.truncate.ensures.items, length-take (length before) c.args.text.items) in
    let last = piece_last text before c.loop-text.out (length left) within room copied left c.put.new.out is (rw c.deref-2.ensures.value at c.put.ensures.front) (search rules) in
    record { front = front_copied c.args.text.items before c.put.new.out (rw c.truncate.ensures.items at last); whole = search rules }
