use Rattle.std.proofs.Common.{◌≡◌, ◌∙◌, ◌+◌, ◌<◌, [], drop, get_or, length, Some, refl, sym, ap, arith}
use Rattle.std.specs.Prelude.{slice_get}
use Rattle.std.proofs.lemmas.List.{drop_all}
use Rattle.std.proofs.lemmas.Option.{slice_get-get_or}
use Rattle.avro_display.proofs.Tables.{key_here, left_none, placed_more}
use Rattle.avro_display.proofs.members.entry_order.Goals as goal

pub loop-index-init : goal.loop-index-init
loop-index-init g c = λ keys tree are. (λ t. rw (c.new-order.ensures.empty) refl, rw (c.new-order.ensures.empty) tt)

pub loop-index-preserved : goal.loop-index-preserved
loop-index-preserved g c = λ keys tree are.
    let l = c.loop-index in
    let i = l.index in
    let k = get_or keys i [] in
    let within : i < length keys = omega (arith, are.0, c.loop-index-test.true) in
    let there : slice_get keys i ≡ Some k = slice_get-get_or keys i [] within in
    let got : slice_get keys i ≡ Some c.key.result.now = there ∙ ap Some (sym (c.key.ensures k (tree i) (are.1 i k there))) in
    placed_more (λ e. g.D.Displayed.entry_shows c.args.displayed.now c.args.object e.1 e.0 (tree e.1)) keys (drop i keys) (drop (i + 1) keys) i l.order.entries c.insert.new.self.entries c.key.result
    (key_here keys i c.key.result.now got) c.in_ok-insert.ensures.entries (are.1 i c.key.result.now got) (l.invariant keys tree are)

pub returns-clause-order : goal.returns-clause-order
returns-clause-order g c = λ keys tree are.
    let l = c.loop-index in
    left_none keys (drop l.index keys) l.index l.order.entries (drop_all l.index keys (omega (arith, are.0, c.loop-index-test.false))) (l.invariant keys tree are).0

pub returns-clause-have : goal.returns-clause-have
returns-clause-have g c = λ keys tree are. (c.loop-index.invariant keys tree are).1
