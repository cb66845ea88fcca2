use Rattle.std.proofs.Common.{◌≡◌, ◌++◌, ◌∷◌, [], List, ℕ, false, length, refl, sym, ap, subst, ◌∙◌, ◌<◌, arith, rules, map}
use Rattle.std.proofs.lemmas.Result.{on_err_weaker}
use Rattle.std.specs.Prelude.{OnOk}
use Rattle.serde_json.specs.Data.{object}
use Rattle.serde_json.specs.Written.{compact_text, items_text, members_text}
use Rattle.avro_device.specs.PutFront.{PutsFrontOf}
use Rattle.avro_display.specs.Displayed.{AreOrdered, IsShown, item_at, items_count, members_left}
use Rattle.avro_display.specs.Order.{in_order}
use Rattle.avro_display.specs.Pieces.{PutsText}
use Rattle.avro_display.specs.inside.Tables.{seen_place}
use Rattle.avro_display.proofs.Displays.{all_at, entries_last, entries_last_fails, entries_more, entry_fails, item_fails, items_last, items_last_fails, items_more}
use Rattle.avro_display.proofs.Displays.{member_fails, members_last, members_last_fails, members_more, some_members}
use Rattle.avro_display.proofs.public.Fronts.{fronts_both, fronts_held, fronts_longer, fronts_opened, on_any_err}
use Rattle.avro_display.proofs.public.Putting.{on_ok, puts_both, puts_none, puts_opened}
use Rattle.avro_display.proofs.putting.+putting.Goals as goal

pub put_items-loop-index-preserved : goal.put_items-loop-index-preserved
put_items-loop-index-preserved g t c =
    let l = c.loop-index in (
      λ ds are.
          let within : l.index < items_count ds = omega (arith, are.0, c.loop-index-test.true) in
          items_more g.O.Output.keeps g.met.O.Output.chain c.args.out.now l.out c.put_displayed.new.out c.append_byte.new.self (items_text false ds)
          l.text c.put_displayed.new.text l.later ds l.index c.append_comma.new.self within c.in_ok-append_comma.ensures (l.invariant.0 ds are)
          (c.in_ok-put_displayed.ensures.put (item_at ds l.index) (c.item-item.ensures.shows (item_at ds l.index) (are.1 l.index c.loop-index-test.true))),
      c.in_ok-put_displayed.ensures.works ∙ l.invariant.1,
    )

pub put_items-returns-clause-put : goal.put_items-returns-clause-put
put_items-returns-clause-put g t c = λ ds are.
    let l = c.loop-index in
    let all = items_text false ds in
    on_ok (λ step. puts_opened g.O.Output.keeps c.args.out.now c.put_byte.new.out c.args.text.now (91 ∷ []) all c.append_byte.new.self c.put_byte.new.text
    c.in_ok-append_byte.ensures.appended
    (items_last g.O.Output.keeps g.met.O.Output.chain c.args.out.now l.out c.put_byte.new.out c.append_byte.new.self all
    l.text c.put_byte.new.text l.later ds l.index (omega (arith, are.0, c.loop-index-test.false)) (l.invariant.0 ds are) step))
    c.put_byte.result c.put_byte.ensures.put

pub put_ordered-loop-key-init : goal.put_ordered-loop-key-init
put_ordered-loop-key-init g t c =
    let same : c.into_iter-key-iterator.result ≡ c.args.order.now.entries = search rules in (
      λ tree are. rw same (
        puts_none g.O.Output.keeps g.met.O.Output.none c.args.out.now c.append_byte.new.self (members_text false (in_order tree (map seen_place c.args.order.now.entries))),
        are,
      ),
      refl,
    )

pub put_ordered-loop-key-preserved : goal.put_ordered-loop-key-preserved
put_ordered-loop-key-preserved g t c =
    let l = c.loop-key in
    let place = seen_place (c.in-Some.key.now, c.in-Some.index.now) in (
      λ tree are.
          let have = l.invariant.0 tree are in
          let left : map seen_place l.key-iterator ≡ place ∷ map seen_place c.next.new.self = search rules in
          let some = subst (λ (es : List (List ℕ × ℕ)). AreOrdered (g.D.Displayed.entry_shows c.args.displayed.now) c.args.entries es tree) left have.1 in (
            entries_more g.O.Output.keeps g.met.O.Output.chain c.args.out.now l.out c.put_displayed.new.out c.append_byte.new.self
                (members_text false (in_order tree (map seen_place c.args.order.now.entries)))
                l.text c.put_displayed.new.text l.later tree (map seen_place l.key-iterator) (map seen_place c.next.new.self) place
                c.append_entry_key.new.self left c.in_ok-append_entry_key.ensures have.0
                (c.in_ok-put_displayed.ensures.put (tree place.1) (c.entry-value.ensures.shows place.0 (tree place.1) some.0)),
            some.1,
          ),
      c.in_ok-put_displayed.ensures.works ∙ l.invariant.1,
    )

pub put_ordered-returns-clause-put : goal.put_ordered-returns-clause-put
put_ordered-returns-clause-put g t c = λ tree are.
    let l = c.loop-key in
    let all = members_text false (in_order tree (map seen_place c.args.order.now.entries)) in
    let none : map seen_place l.key-iterator ≡ [] = search rules in
    on_ok (λ step. puts_opened g.O.Output.keeps c.args.out.now c.put_byte.new.out c.args.text.now (123 ∷ []) all c.append_byte.new.self c.put_byte.new.text
    c.in_ok-append_byte.ensures.appended
    (entries_last g.O.Output.keeps g.met.O.Output.chain c.args.out.now l.out c.put_byte.new.out c.append_byte.new.self all
    l.text c.put_byte.new.text l.later tree (map seen_place l.key-iterator) none (l.invariant.0 tree are).0 step))
    c.put_byte.result c.put_byte.ensures.put

pub put_entries-returns-clause-put : goal.put_entries-returns-clause-put
put_entries-returns-clause-put g t c = λ keys tree are.
    on_ok (λ step. subst (λ ms. PutsText g.O.Output.keeps c.args.out.now c.args.text.now (compact_text (object ms)) c.put_ordered.new.out c.put_ordered.new.text)
    (c.in_ok-order.ensures.order keys tree are tree) step)
    c.put_ordered.result (c.put_ordered.ensures.put tree (c.in_ok-order.ensures.have keys tree are))

pub put_members-loop-member-preserved : goal.put_members-loop-member-preserved
put_members-loop-member-preserved g t c =
    let l = c.loop-member in
    let ms = c.args.members.now in
    let m = c.member-item.result in (
      λ tree are.
          let good = all_at (λ x. g.D.Displayed.member_shows c.args.displayed.now c.args.owner x (tree x.field)) ms l.member-index m c.loop-member-test.true are in
          members_more g.O.Output.keeps g.met.O.Output.chain c.args.out.now l.out c.put_displayed.new.out c.args.text.now (members_left tree ms)
          l.text c.put_displayed.new.text tree ms l.member-index m c.append.new.self c.loop-member-test.true c.member-item.is
          (c.in_ok-append.ensures.appended ∙ ap (λ b. l.text ++ b) c.head.ensures) (l.invariant.0 tree are)
          (c.in_ok-put_displayed.ensures.put (tree m.field) (c.member-value.ensures.shows (tree m.field) (subst (λ x. g.D.Displayed.member_shows c.args.displayed.now c.args.owner x (tree x.field)) (sym c.member-item.is) good))),
      c.in_ok-put_displayed.ensures.works ∙ l.invariant.1,
    )

pub put_members-returns-clause-put : goal.put_members-returns-clause-put
put_members-returns-clause-put g t c = λ tree are.
    let l = c.loop-member in
    let ms = c.args.members.now in
    let some : 0 < length ms = search rules in
    on_ok (λ step. subst (λ b. PutsText g.O.Output.keeps c.args.out.now c.args.text.now b c.put_byte.new.out c.put_byte.new.text) (some_members tree ms some)
    (members_last g.O.Output.keeps g.met.O.Output.chain c.args.out.now l.out c.put_byte.new.out c.args.text.now (members_left tree ms)
    l.text c.put_byte.new.text tree ms l.member-index c.loop-member-test.false (l.invariant.0 tree are) step))
    c.put_byte.result c.put_byte.ensures.put

pub put_branch-returns-clause-put : goal.put_branch-returns-clause-put
put_branch-returns-clause-put g t c = λ d is.
    on_ok (λ step. puts_opened g.O.Output.keeps _ _ c.args.text.now c.args.opening.now (compact_text d ++ 125 ∷ []) _ _ c.in_ok-append.ensures.appended
    (puts_both g.O.Output.keeps g.met.O.Output.chain _ _ _ c.append.new.self (compact_text d) _ _ _ (c.in_ok-put_displayed.ensures.put d is) step))
    c.put_byte.result c.put_byte.ensures.put

pub put_displayed-returns-in-Entries-clause-put : goal.put_displayed-returns-in-Entries-clause-put
put_displayed-returns-in-Entries-clause-put g t c = λ d shown.
    let (keys, tree, is, are) = c.in-Entries.ensures.opens d (subst (λ p. IsShown (g.D.Displayed.shows c.args.displayed.now) p d) c.in-Some.is shown) in
    subst (λ b. OnOk c.put_entries.result (PutsText g.O.Output.keeps c.args.out.now c.args.text.now (compact_text b) c.put_entries.new.out c.put_entries.new.text)) (sym is)
    (c.put_entries.ensures.put keys tree are)

-- ---- where a step fails

pub put_items-returns-in_err-append_comma-clause-front : goal.put_items-returns-in_err-append_comma-clause-front
put_items-returns-in_err-append_comma-clause-front g t c = λ ds are.
    let l = c.loop-index in
    let all = items_text false ds in
    on_any_err (fronts_opened g.O.Output.keeps c.args.out.now l.out c.args.text.now (91 ∷ []) all c.append_byte.new.self c.in_ok-append_byte.ensures.appended
    (fronts_held g.O.Output.keeps c.args.out.now l.out c.append_byte.new.self all _ (l.invariant.0 ds are)))
    c.from_residual-in_err-append_comma.result

pub put_items-returns-in_err-put_displayed-clause-front : goal.put_items-returns-in_err-put_displayed-clause-front
put_items-returns-in_err-put_displayed-clause-front g t c = λ ds are.
    let l = c.loop-index in
    let all = items_text false ds in
    let within : l.index < items_count ds = omega (arith, are.0, c.loop-index-test.true) in
    on_any_err (fronts_opened g.O.Output.keeps c.args.out.now c.put_displayed.new.out c.args.text.now (91 ∷ []) all c.append_byte.new.self c.in_ok-append_byte.ensures.appended
    (item_fails g.O.Output.keeps g.met.O.Output.chain c.args.out.now l.out c.put_displayed.new.out c.append_byte.new.self all
    l.text l.later ds l.index c.append_comma.new.self within c.in_ok-append_comma.ensures (l.invariant.0 ds are)
    (c.in_err-put_displayed.ensures.front (item_at ds l.index) (c.item-item.ensures.shows (item_at ds l.index) (are.1 l.index c.loop-index-test.true)))))
    c.from_residual-in_err-put_displayed.result

pub put_items-returns-clause-front : goal.put_items-returns-clause-front
put_items-returns-clause-front g t c = λ ds are.
    let l = c.loop-index in
    let all = items_text false ds in
    on_err_weaker c.put_byte.result (λ step. fronts_opened g.O.Output.keeps c.args.out.now c.put_byte.new.out c.args.text.now (91 ∷ []) all c.append_byte.new.self c.in_ok-append_byte.ensures.appended
    (items_last_fails g.O.Output.keeps g.met.O.Output.chain c.args.out.now l.out c.put_byte.new.out c.append_byte.new.self all
    l.text l.later ds l.index (omega (arith, are.0, c.loop-index-test.false)) (l.invariant.0 ds are) step))
    c.put_byte.ensures.front

pub put_ordered-returns-in_err-append_entry_key-clause-front : goal.put_ordered-returns-in_err-append_entry_key-clause-front
put_ordered-returns-in_err-append_entry_key-clause-front g t c = λ tree are.
    let l = c.loop-key in
    let all = members_text false (in_order tree (map seen_place c.args.order.now.entries)) in
    on_any_err (fronts_opened g.O.Output.keeps c.args.out.now l.out c.args.text.now (123 ∷ []) all c.append_byte.new.self c.in_ok-append_byte.ensures.appended
    (fronts_held g.O.Output.keeps c.args.out.now l.out c.append_byte.new.self all _ (l.invariant.0 tree are).0))
    c.from_residual-in_err-append_entry_key.result

pub put_ordered-returns-in_err-put_displayed-clause-front : goal.put_ordered-returns-in_err-put_displayed-clause-front
put_ordered-returns-in_err-put_displayed-clause-front g t c = λ tree are.
    let l = c.loop-key in
    let all = members_text false (in_order tree (map seen_place c.args.order.now.entries)) in
    let place = seen_place (c.in-Some.key.now, c.in-Some.index.now) in
    let have = l.invariant.0 tree are in
    let left : map seen_place l.key-iterator ≡ place ∷ map seen_place c.next.new.self = search rules in
    let some = subst (λ (es : List (List ℕ × ℕ)). AreOrdered (g.D.Displayed.entry_shows c.args.displayed.now) c.args.entries es tree) left have.1 in
    on_any_err (fronts_opened g.O.Output.keeps c.args.out.now c.put_displayed.new.out c.args.text.now (123 ∷ []) all c.append_byte.new.self c.in_ok-append_byte.ensures.appended
    (entry_fails g.O.Output.keeps g.met.O.Output.chain c.args.out.now l.out c.put_displayed.new.out c.append_byte.new.self all
    l.text l.later tree (map seen_place l.key-iterator) (map seen_place c.next.new.self) place c.append_entry_key.new.self left c.in_ok-append_entry_key.ensures have.0
    (c.in_err-put_displayed.ensures.front (tree place.1) (c.entry-value.ensures.shows place.0 (tree place.1) some.0))))
    c.from_residual-in_err-put_displayed.result

pub put_ordered-returns-clause-front : goal.put_ordered-returns-clause-front
put_ordered-returns-clause-front g t c = λ tree are.
    let l = c.loop-key in
    let all = members_text false (in_order tree (map seen_place c.args.order.now.entries)) in
    let none : map seen_place l.key-iterator ≡ [] = search rules in
    on_err_weaker c.put_byte.result (λ step. fronts_opened g.O.Output.keeps c.args.out.now c.put_byte.new.out c.args.text.now (123 ∷ []) all c.append_byte.new.self c.in_ok-append_byte.ensures.appended
    (entries_last_fails g.O.Output.keeps g.met.O.Output.chain c.args.out.now l.out c.put_byte.new.out c.append_byte.new.self all
    l.text l.later tree (map seen_place l.key-iterator) none (l.invariant.0 tree are).0 step))
    c.put_byte.ensures.front

pub put_entries-returns-clause-front : goal.put_entries-returns-clause-front
put_entries-returns-clause-front g t c = λ keys tree are.
    on_err_weaker c.put_ordered.result (λ step. subst (λ ms. PutsFrontOf g.O.Output.keeps c.args.out.now c.put_ordered.new.out (c.args.text.now ++ compact_text (object ms)))
    (c.in_ok-order.ensures.order keys tree are tree) step)
    (c.put_ordered.ensures.front tree (c.in_ok-order.ensures.have keys tree are))

pub put_members-returns-in_err-append-clause-front : goal.put_members-returns-in_err-append-clause-front
put_members-returns-in_err-append-clause-front g t c = λ tree are.
    let l = c.loop-member in
    let ms = c.args.members.now in
    on_any_err (subst (λ b. PutsFrontOf g.O.Output.keeps c.args.out.now l.out (c.args.text.now ++ b)) (some_members tree ms (omega (arith, c.loop-member-test.true)))
    (fronts_held g.O.Output.keeps c.args.out.now l.out c.args.text.now (members_left tree ms) _ (l.invariant.0 tree are)))
    c.from_residual.result

pub put_members-returns-in_err-put_displayed-clause-front : goal.put_members-returns-in_err-put_displayed-clause-front
put_members-returns-in_err-put_displayed-clause-front g t c = λ tree are.
    let l = c.loop-member in
    let ms = c.args.members.now in
    let m = c.member-item.result in
    let good = all_at (λ x. g.D.Displayed.member_shows c.args.displayed.now c.args.owner x (tree x.field)) ms l.member-index m c.loop-member-test.true are in
    on_any_err (subst (λ b. PutsFrontOf g.O.Output.keeps c.args.out.now c.put_displayed.new.out (c.args.text.now ++ b)) (some_members tree ms (omega (arith, c.loop-member-test.true)))
    (member_fails g.O.Output.keeps g.met.O.Output.chain c.args.out.now l.out c.put_displayed.new.out c.args.text.now (members_left tree ms)
    l.text tree ms l.member-index m c.append.new.self c.loop-member-test.true c.member-item.is
    (c.in_ok-append.ensures.appended ∙ ap (λ b. l.text ++ b) c.head.ensures) (l.invariant.0 tree are)
    (c.in_err-put_displayed.ensures.front (tree m.field) (c.member-value.ensures.shows (tree m.field) (subst (λ x. g.D.Displayed.member_shows c.args.displayed.now c.args.owner x (tree x.field)) (sym c.member-item.is) good)))))
    c.from_residual-in_err-put_displayed.result

pub put_members-returns-clause-front : goal.put_members-returns-clause-front
put_members-returns-clause-front g t c = λ tree are.
    let l = c.loop-member in
    let ms = c.args.members.now in
    let some : 0 < length ms = search rules in
    on_err_weaker c.put_byte.result (λ step. subst (λ b. PutsFrontOf g.O.Output.keeps c.args.out.now c.put_byte.new.out (c.args.text.now ++ b)) (some_members tree ms some)
    (members_last_fails g.O.Output.keeps g.met.O.Output.chain c.args.out.now l.out c.put_byte.new.out c.args.text.now (members_left tree ms)
    l.text tree ms l.member-index c.loop-member-test.false (l.invariant.0 tree are) step))
    c.put_byte.ensures.front

pub put_branch-returns-in_err-put_displayed-clause-front : goal.put_branch-returns-in_err-put_displayed-clause-front
put_branch-returns-in_err-put_displayed-clause-front g t c = λ d is.
    on_any_err (fronts_opened g.O.Output.keeps _ _ c.args.text.now c.args.opening.now (compact_text d ++ 125 ∷ []) _ c.in_ok-append.ensures.appended
    (fronts_longer g.O.Output.keeps _ _ c.append.new.self (compact_text d) (125 ∷ []) (c.in_err-put_displayed.ensures.front d is)))
    c.from_residual-in_err-put_displayed.result

pub put_branch-returns-clause-front : goal.put_branch-returns-clause-front
put_branch-returns-clause-front g t c = λ d is.
    on_err_weaker c.put_byte.result (λ step. fronts_opened g.O.Output.keeps _ _ c.args.text.now c.args.opening.now (compact_text d ++ 125 ∷ []) _ c.in_ok-append.ensures.appended
    (fronts_both g.O.Output.keeps g.met.O.Output.chain _ _ _ c.append.new.self (compact_text d) _ (125 ∷ []) (c.in_ok-put_displayed.ensures.put d is) step))
    c.put_byte.ensures.front
