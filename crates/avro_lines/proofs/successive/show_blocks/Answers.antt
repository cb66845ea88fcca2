-- Each block is shown after those before it.
use Rattle.std.proofs.Common.{◌≡◌, ◌≢◌, ◌+◌, ℕ, [], Option, Some, ap, sym, subst, ◌∙◌, arith, rules}
use Rattle.avro_lines.specs.inside.BlocksShown.{Goes, IsAll, Leaves, Shows}
use Rattle.avro_lines.specs.inside.OpenedSeen.{header_for, limits_for, reader_for}
use Rattle.avro_lines.proofs.Onward.{onward-end, onward-enough, onward-next, onward-none, onward-stops}
use Rattle.avro_lines.proofs.Parts.{err-exit}
use Rattle.avro_lines.proofs.successive.show_blocks.Goals as goal

pub loop-left-init : goal.loop-left-init
loop-left-init g c =
    let opened = c.args.opened.now in
    record {
      shown = onward-none g.I.Input.gives g.I.Input.failures g.O.Output.keeps g.O.Output.failures (limits_for opened) (reader_for opened) (header_for opened) c.args.limit g.met.I.Input.none g.met.O.Output.none
          c.args.input.now c.args.output.now c.new-blocks.result.number c.args.lines.now.text c.new-blocks.ensures.number c.requires.none;
      header = ap (λ r. r.now) c.new-blocks.ensures.header;
      limits = c.new-blocks.ensures.limits;
      failed = c.new-blocks.ensures.begins.1;
      ended = c.new-blocks.ensures.begins.0;
      few = search rules;
    }

pub loop-left-preserved : goal.loop-left-preserved
loop-left-preserved g c =
    let opened = c.args.opened.now in
    let l = c.loop-left in
    let inv = l.invariant in
    let step = c.in_ok-count.ensures in
    let count = c.in-Some.count in
    let more : ◌≢◌ {A = Option ℕ} l.left (Some 0) = search rules in
    let goes_on = rw c.in-Some.is at step.goes_on in
    let counted = goes_on.0 in
    let one = onward-next g.I.Input.gives g.I.Input.failures g.O.Output.keeps g.O.Output.failures (limits_for opened) (reader_for opened) (header_for opened) c.args.limit g.met.I.Input.chain g.met.O.Output.chain
    c.args.input.now l.input c.show_next.new.input c.args.output.now l.output c.show_next.new.output l.blocks.number l.left l.lines.text c.show_next.new.lines.text inv.shown
    (g.I.Input.ended c.show_next.new.input) count more (rw c.in-Some.is at step.shown) in
    let few = one.moved.does.show.few in
    let long = one.moved.does.is_so.2.0 in
    record {
      shown = subst (λ (n : ℕ). Goes g.I.Input.gives g.I.Input.failures g.O.Output.keeps g.O.Output.failures c.args.input.now c.show_next.new.input c.args.output.now c.show_next.new.output
          (Shows (limits_for opened) (reader_for opened) (header_for opened) c.args.limit 0 [] c.show_next.new.lines.text (IsAll (Leaves c.args.limit n c.left_after-left.result)))) (sym counted)
          (subst (λ (left : Option ℕ). Goes g.I.Input.gives g.I.Input.failures g.O.Output.keeps g.O.Output.failures c.args.input.now c.show_next.new.input c.args.output.now c.show_next.new.output
          (Shows (limits_for opened) (reader_for opened) (header_for opened) c.args.limit 0 [] c.show_next.new.lines.text (IsAll (Leaves c.args.limit (l.blocks.number + 1) left)))) (sym c.left_after-left.ensures) one);
      header = ap (λ r. r.now) step.kept.0 ∙ inv.header;
      limits = step.kept.1 ∙ inv.limits;
      failed = goes_on.1;
      ended = goes_on.2;
      few = omega (arith, counted, few, long);
    }

pub returns-in-None : goal.returns-in-None
returns-in-None g c =
    let opened = c.args.opened.now in
    let l = c.loop-left in
    onward-end g.I.Input.gives g.I.Input.failures g.O.Output.keeps g.O.Output.failures (limits_for opened) (reader_for opened) (header_for opened) c.args.limit g.met.I.Input.chain g.met.O.Output.chain
    c.args.input.now l.input c.show_next.new.input c.args.output.now l.output c.show_next.new.output l.blocks.number l.left l.lines.text c.show_next.new.lines.text l.invariant.shown
    (g.I.Input.ended c.show_next.new.input) (rw c.in-None.is at c.in_ok-count.ensures.shown)

pub returns : goal.returns
returns g c =
    let opened = c.args.opened.now in
    let l = c.loop-left in
    let reached : l.left ≡ Some 0 = search rules in
    onward-enough g.I.Input.gives g.I.Input.failures g.O.Output.keeps g.O.Output.failures (limits_for opened) (reader_for opened) (header_for opened) c.args.limit g.met.I.Input.chain g.met.O.Output.chain
    g.met.I.Input.none g.met.O.Output.none c.args.input.now l.input c.args.output.now l.output l.blocks.number l.left l.lines.text (g.I.Input.ended l.input) reached l.invariant.few l.invariant.shown

pub returns-in_err-count : goal.returns-in_err-count
returns-in_err-count g c =
    let opened = c.args.opened.now in
    let l = c.loop-left in
    err-exit _ _ c.from_residual.result _ c.from_residual.ensures.1
    (onward-stops g.I.Input.gives g.I.Input.failures g.O.Output.keeps g.O.Output.failures (limits_for opened) (reader_for opened) (header_for opened) c.args.limit g.met.I.Input.chain g.met.O.Output.chain
    c.args.input.now l.input c.show_next.new.input c.args.output.now l.output c.show_next.new.output l.blocks.number l.left l.lines.text c.show_next.new.lines.text l.invariant.shown
    g.O.Output.stuck (g.I.Input.ended c.show_next.new.input) _ c.in_err-count.ensures.shown)
