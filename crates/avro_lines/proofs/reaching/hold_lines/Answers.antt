-- Each line is held after those before it.
use Rattle.std.proofs.Common.{◌<◌, List, ℕ, sym, subst, refl, arith, rules, take}
use Rattle.avro_lines.specs.inside.DataShown.{HoldsMore, HoldsNext}
use Rattle.avro_lines.specs.inside.OpenedSeen.{reading_for, shown_for}
use Rattle.avro_lines.proofs.Helds.{holds-more, holds-none, next-inside}
use Rattle.avro_lines.proofs.reaching.hold_lines.Goals as goal

pub loop-done-init : goal.loop-done-init
loop-done-init c = (c.requires.inside, omega arith, c.requires.few, λ some whole. holds-none _ _ some _ _ _ whole)

pub loop-done-preserved : goal.loop-done-preserved
loop-done-preserved c =
    let opened = c.args.opened.now in
    let r = reading_for opened in
    let nodes = shown_for opened in
    let l = c.loop-done in
    let had = l.invariant in
    let next = subst (λ (rest : List ℕ). HoldsNext r nodes rest c.in-Some.len l.lines.text c.hold_line.new.lines.text) c.split_at.ensures.back c.in-Some.ensures.holds in
    let less : l.done < c.args.count = search rules in (
      next-inside r l.start c.in-Some.len c.args.body.now next.datum had.0 next.stands,
      omega (arith, had.1),
      omega (arith, less),
      λ some whole. holds-more r nodes some l.done l.start c.in-Some.len c.args.body.now c.args.lines.now.text l.lines.text c.hold_line.new.lines.text refl (had.3 some whole) next,
    )

pub returns-in-None-clause-holds : goal.returns-in-None-clause-holds
returns-in-None-clause-holds c = λ some whole.
    let opened = c.args.opened.now in
    let l = c.loop-done in
    subst (λ (text : List ℕ). HoldsMore (reading_for opened) (shown_for opened) some l.done (take l.start c.args.body.now) c.args.lines.now.text text) (sym c.in-None.ensures.kept)
    (l.invariant.3 some whole)
