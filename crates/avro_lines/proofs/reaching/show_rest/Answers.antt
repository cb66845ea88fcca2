-- What stands next is one of all data, so that it is shown.
use Rattle.std.proofs.Common.{◌<◌, ◌≤◌, List, ℕ, sym, subst, refl, arith, rules, take, drop}
use Rattle.std.proofs.lemmas.List.{take-append-drop}
use Rattle.std.proofs.lemmas.Result.{MatchResult-weaker}
use Rattle.avro_lines.specs.inside.DataShown.{PutsOr, text_of}
use Rattle.avro_lines.specs.inside.OpenedSeen.{reading_for, shown_for}
use Rattle.avro_lines.proofs.Firsts.{next-stands}
use Rattle.avro_lines.proofs.Helds.{all-first, shown-part}
use Rattle.avro_lines.proofs.Parts.{err-exit, part-out, puts-out}
use Rattle.avro_lines.proofs.reaching.show_rest.Goals as goal

pub loop-to-init : goal.loop-to-init
loop-to-init g c = (c.requires.inside, c.requires.few.0, λ first held made whole had. had)

pub loop-to-preserved : goal.loop-to-preserved
loop-to-preserved g c =
    let r = reading_for c.args.opened.now in
    let body = c.args.body.now in
    let l = c.loop-to in
    let step = c.in_ok-to.ensures in
    let less : l.to.done < c.args.count = search rules in
    let most = c.requires.few.1 in (
      step.inside,
      step.few.1,
      λ first held made whole had0.
          let had = l.invariant.2 first held made whole had0 in
          let next = next-stands c.prefix.ensures r c.args.all l.to.done body (take l.to.start body) (drop l.to.start body) made had.made (omega (arith, less, most)) whole had.whole (sym (take-append-drop l.to.start body)) in
          step.shown first held next.0 next.1 next.2 had,
    )

pub returns : goal.returns
returns g c = λ first held made whole had0.
    let nodes = shown_for c.args.opened.now in
    let l = c.loop-to in
    let least : c.args.count ≤ l.to.done = search rules in
    let most = l.invariant.1 in
    let had = l.invariant.2 first held made whole had0 in
    let lines = all-first c.prefix.ensures (reading_for c.args.opened.now) nodes c.args.all c.args.count l.to.done l.to.start c.args.body.now made had.made (omega (arith, least, most)) c.requires.few.1 whole had.whole in
    subst (λ (b : List ℕ). PutsOr g.O.Output.keeps g.O.Output.failures g.O.Output.stuck first held b c.put_long.new.output c.put_long.new.lines.text c.put_long.result) lines
    (MatchResult-weaker c.put_long.result c.put_long.ensures
    (λ _ out. puts-out g.O.Output.keeps g.O.Output.failures g.met.O.Output.chain first l.output c.put_long.new.output held (text_of nodes had.made) l.lines.text c.put_long.new.lines.text had.lines out)
    (λ e out. part-out g.O.Output.keeps g.O.Output.failures g.O.Output.stuck g.met.O.Output.chain first l.output c.put_long.new.output held (text_of nodes had.made) l.lines.text c.put_long.new.lines.text e had.lines out.1))

pub returns-in_err-to : goal.returns-in_err-to
returns-in_err-to g c = λ first held made whole had0.
    let r = reading_for c.args.opened.now in
    let body = c.args.body.now in
    let l = c.loop-to in
    let less : l.to.done < c.args.count = search rules in
    let most = c.requires.few.1 in
    let had = l.invariant.2 first held made whole had0 in
    let next = next-stands c.prefix.ensures r c.args.all l.to.done body (take l.to.start body) (drop l.to.start body) made had.made (omega (arith, less, most)) whole had.whole (sym (take-append-drop l.to.start body)) in
    err-exit _ _ c.from_residual.result _ c.from_residual.ensures.1
    (shown-part g.O.Output.keeps g.O.Output.failures g.O.Output.stuck c.prefix.ensures r (shown_for c.args.opened.now) c.args.all c.args.count l.to.done l.to.start next.1 body made next.0 first c.put_more.new.output held
    c.put_more.new.lines.text had.made _ refl less most whole had.whole next.2 (c.in_err-to.ensures.shown first held next.0 next.1 next.2 had))
