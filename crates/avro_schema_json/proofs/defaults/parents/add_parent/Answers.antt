use Rattle.avro_schema_json.proofs.Words.{◌<◌, ◌%◌, List, length, refl, sym, ap, subst, ◌∙◌, arith, has_bit, RowWord}
use Rattle.avro_schema_json.proofs.EachSeen.{same-at}
use Rattle.avro_schema_json.proofs.ParentsSeen.{bit-kept, bit-set, bit-before, bit-last}
use Rattle.avro_schema_json.proofs.RowsSeen.{bit-itself, more-right}
use Rattle.avro_schema_json.proofs.defaults.parents.add_parent.Goals as goal

pub returns-then-index-clause-kept : goal.returns-then-index-clause-kept
returns-then-index-clause-kept c = λ p h.
    let words = c.loop-i.words.items in
    let count = c.len-i-end.ensures ∙ c.args.words.now.ok.0 in
    let same = ap length c.loop-i.invariant in
    let below : c.loop-i.i < length words = omega (arith, c.loop-i-test.true, count, same) in
    bit-kept words c.loop-i.i _ p c.index_mut.result.now below c.index_mut.ensures.value (subst (λ (ws : List RowWord). has_bit ws p) (sym c.loop-i.invariant) h)

pub returns-then-index-clause-added : goal.returns-then-index-clause-added
returns-then-index-clause-added c =
    let words = c.loop-i.words.items in
    let count = c.len-i-end.ensures ∙ c.args.words.now.ok.0 in
    let same = ap length c.loop-i.invariant in
    let below : c.loop-i.i < length words = omega (arith, c.loop-i-test.true, count, same) in
    let one = same-at words c.loop-i.i c.index_mut.result.now c.index.result.now below c.index_mut.ensures.value c.index.ensures in
    bit-set words c.loop-i.i c.args.parent _ below (ap (λ (w : RowWord). w.index) one ∙ c.if-index.true)
    (more-right c.index_mut.result.now.bits _ (c.args.parent % 64) (bit-itself (c.args.parent % 64) (omega arith)))

pub returns-clause-kept : goal.returns-clause-kept
returns-clause-kept c = λ p h.
    bit-before c.loop-i.words.items c.push.new.self.items _ p c.in_ok-push.ensures.items (subst (λ (ws : List RowWord). has_bit ws p) (sym c.loop-i.invariant) h)

pub returns-clause-added : goal.returns-clause-added
returns-clause-added c =
    bit-last c.loop-i.words.items c.push.new.self.items _ c.args.parent c.in_ok-push.ensures.items refl (bit-itself (c.args.parent % 64) (omega arith))
