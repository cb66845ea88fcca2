use Rattle.avro_schema_json.proofs.Words.{◌<◌, List, length, refl, sym, ap, subst, ◌∙◌, arith, bit_at, has_parent, Places}
use Rattle.avro_schema_json.proofs.EachSeen.{same-at}
use Rattle.avro_schema_json.proofs.ParentsSeen.{parent-before, places-kept, parent-last, parent-set}
use Rattle.avro_schema_json.proofs.defaults.parents.put_in.Goals as goal

pub returns-then-index-mask-clause-kept : goal.returns-then-index-mask-clause-kept
returns-then-index-mask-clause-kept c = λ i p h.
    let all = c.loop-i.places.items in
    let count = c.len-i-end.ensures ∙ c.args.places.now.ok.0 in
    let below : c.loop-i.i < length all = omega (arith, c.loop-i-test.true, count, ap length c.loop-i.invariant) in
    places-kept all c.loop-i.i c.index_mut.result.now _ below c.index_mut.ensures.value refl c.in_ok-add_parent.ensures.kept i p
    (subst (λ (ps : List Places). has_parent ps i p) (sym c.loop-i.invariant) h)

pub returns-then-index-mask-clause-added : goal.returns-then-index-mask-clause-added
returns-then-index-mask-clause-added c = λ i bit.
    let all = c.loop-i.places.items in
    let count = c.len-i-end.ensures ∙ c.args.places.now.ok.0 in
    let below : c.loop-i.i < length all = omega (arith, c.loop-i-test.true, count, ap length c.loop-i.invariant) in
    let one = same-at all c.loop-i.i c.index_mut.result.now c.index.result.now below c.index_mut.ensures.value c.index.ensures in
    parent-set all c.loop-i.i i c.args.parent _ below (ap (λ m. bit_at m i) (ap (λ (q : Places). q.mask) one ∙ c.if-index-mask.true) ∙ bit) c.in_ok-add_parent.ensures.added

pub returns-clause-kept : goal.returns-clause-kept
returns-clause-kept c = λ i p h.
    parent-before c.loop-i.places.items c.push.new.self.items _ c.in_ok-push.ensures.items i p (subst (λ (ps : List Places). has_parent ps i p) (sym c.loop-i.invariant) h)

pub returns-clause-added : goal.returns-clause-added
returns-clause-added c = λ i bit. parent-last c.loop-i.places.items c.push.new.self.items _ i c.args.parent c.in_ok-push.ensures.items bit c.in_ok-add_parent-2.ensures.added
