use Rattle.avro_schema_json.proofs.Words.{ℕ, List, [], ◌∷◌, arith, length, length-append, refl, ap, ◌∙◌, Data, get_member, view, items_view, members_view, view-Array, view-Object, Row, on_ok_weaker}
use Rattle.avro_schema_json.proofs.MarksSeen.{item-at, gathers-none, gathers-next, gathered, covered-marked, stays-twice}
use Rattle.avro_schema_json.proofs.WalkSeen.{all-left, left-first, left-pushed}
use Rattle.avro_schema_json.proofs.defaults.marks.+marks.Goals as goal

pub mark_tree-returns-in_ok-row-in-Array-clause-marked : goal.mark_tree-returns-in_ok-row-in-Array-clause-marked
mark_tree-returns-in_ok-row-in-Array-clause-marked t c =
    covered-marked c.mark_array.result c.args.tables.now c.mark_array.new.marks (view c.args.tree.now) _ c.in_ok-row-in-Array.row.value.words (ap view c.in-Array.is ∙ view-Array c.in-Array.items)
    c.in_ok-row-in-Array.ensures c.mark_array.ensures.marked

pub mark_tree-returns-in_ok-row-in-Object-clause-marked : goal.mark_tree-returns-in_ok-row-in-Object-clause-marked
mark_tree-returns-in_ok-row-in-Object-clause-marked t c = grind (arith, covered-marked, view-Object)

pub mark_array-loop-item-init : goal.mark_array-loop-item-init
mark_array-loop-item-init t c = grind (arith, gathers-none)

pub mark_array-loop-item-preserved : goal.mark_array-loop-item-preserved
mark_array-loop-item-preserved t c =
    let l = c.loop-item in
    let tables = c.args.tables.now in
    let d = Data.array (items_view c.args.items.now.items) in
    let x = c.item-item.result in
    let ys = c.args.items.now.items in
    let mark = c.in_ok-mark.mark in
    let here = item-at c.deref-item-items.result.now ys l.item-index (length l.parts.items) x c.deref-item-items.ensures.value l.invariant.count c.loop-item-test.true c.item-item.is in
    rw c.in_ok-push.ensures.items (record {
      count = omega (arith, length-append l.parts.items (mark ∷ []), l.invariant.count);
      gathers = gathers-next tables d (view x) c.args.marks.now l.marks c.mark_tree.new.marks c.keep_parents.new.memo c.args.row.value.words l.row.value.words c.keep_parents.new.row.value.words l.parts.items mark 0
          l.invariant.gathers c.in_ok-mark.ensures.stays c.in_ok-mark.ensures.marked c.in_ok-keep_parents.ensures.steps c.in_ok-keep_parents.ensures.kept c.in_ok-keep_parents.ensures.row
          (length l.parts.items, refl, here) here;
    })

pub mark_object-loop-key-init : goal.mark_object-loop-key-init
mark_object-loop-key-init t c = grind (arith, all-left, gathers-none)

pub mark_object-loop-key-preserved : goal.mark_object-loop-key-preserved
mark_object-loop-key-preserved t c =
    let l = c.loop-key in
    let tables = c.args.tables.now in
    let es = c.args.members.now.entries in
    let d = Data.object (members_view c.args.members.now.entries) in
    let x = c.in-Some.member.now in
    let mark = c.in_ok-mark.mark in
    let key = c.as_str.result.now in
    let label = c.label_of-label.result in
    let step = c.in-Some.ensures.steps in
    let first = left-first es l.key-iterator c.next.new.self (length l.parts.items) c.in-Some.key.now x step l.invariant.left in
    let named = ap (λ (k : List ℕ). get_member k (members_view es)) c.as_str.ensures.value ∙ first.0 in
    rw c.in_ok-push.ensures.items (record {
      left = left-pushed es l.key-iterator c.next.new.self (c.in-Some.key.now, x) l.parts.items mark step l.invariant.left;
      gathers = gathers-next tables d (view x) c.args.marks.now l.marks c.mark_tree.new.marks c.keep_parents.new.memo c.args.row.value.words l.row.value.words c.keep_parents.new.row.value.words l.parts.items mark label
          l.invariant.gathers c.in_ok-mark.ensures.stays c.in_ok-mark.ensures.marked c.in_ok-keep_parents.ensures.steps c.in_ok-keep_parents.ensures.kept c.in_ok-keep_parents.ensures.row
          (key, c.label_of-label.ensures, named) first.1;
    })

pub mark_array-returns-clause-stays : goal.mark_array-returns-clause-stays
mark_array-returns-clause-stays t c = grind (arith, on_ok_weaker, stays-twice)

pub mark_array-returns-clause-marked : goal.mark_array-returns-clause-marked
mark_array-returns-clause-marked t c =
    gathered c.mark_whole.result c.args.tables.now (Data.array (items_view c.args.items.now.items)) c.args.marks.now c.loop-item.marks c.mark_whole.new.marks c.args.row.value.words _ c.loop-item.row.value.words c.loop-item.parts.items _
    c.loop-item.invariant.gathers (ap (λ (r : Row). r.words) c.deref.ensures) c.deref-2.ensures.value c.mark_whole.ensures.marked

pub mark_object-returns-clause-stays : goal.mark_object-returns-clause-stays
mark_object-returns-clause-stays t c = grind (arith, on_ok_weaker, stays-twice)

pub mark_object-returns-clause-marked : goal.mark_object-returns-clause-marked
mark_object-returns-clause-marked t c =
    gathered c.mark_whole.result c.args.tables.now (Data.object (members_view c.args.members.now.entries)) c.args.marks.now c.loop-key.marks c.mark_whole.new.marks c.args.row.value.words _ c.loop-key.row.value.words c.loop-key.parts.items _
    c.loop-key.invariant.gathers (ap (λ (r : Row). r.words) c.deref.ensures) c.deref-2.ensures.value c.mark_whole.ensures.marked
