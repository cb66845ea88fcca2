-- The next line was put, and those after it are held.
use Rattle.std.proofs.Common.{◌+◌, List, ℕ, sym, subst, refl, take}
use Rattle.avro_file.specs.BlockFails.{DataAreWhole}
use Rattle.avro_lines.specs.Lines.{line_of}
use Rattle.avro_lines.specs.inside.DataShown.{Stands, text_of}
use Rattle.avro_lines.specs.inside.OpenedSeen.{reading_for, shown_for}
use Rattle.avro_lines.proofs.Helds.{shown-more}
use Rattle.avro_lines.proofs.Parts.{err-exit, part-after}
use Rattle.avro_lines.proofs.reaching.put_more.Goals as goal

pub returns-clause-shown : goal.returns-clause-shown
returns-clause-shown g c = λ first held u size stands had.
    let opened = c.args.opened.now in
    let r = reading_for opened in
    let from = c.args.from in
    let to = c.hold_lines.result in
    let body = c.args.body.now in
    let told = c.in_ok-len.ensures.shown u size (subst (λ (b : List ℕ). Stands r b size u) (sym c.split_at.ensures.back) stands) in
    shown-more g.O.Output.keeps g.O.Output.failures g.met.O.Output.chain r (shown_for opened) from.done from.start size to.done to.start body u first c.args.output.now c.put_read.new.output held
    c.args.lines.now.text c.put_read.new.lines.text c.hold_lines.new.lines.text refl had stands told.1
    (λ some whole. c.hold_lines.ensures.holds some (subst (λ (n : ℕ). DataAreWhole r (from.done + 1) (take (from.start + n) body) some) (sym told.0) whole))

pub returns-in_err-len-clause-shown : goal.returns-in_err-len-clause-shown
returns-in_err-len-clause-shown g c = λ first held u size stands had.
    let opened = c.args.opened.now in
    let nodes = shown_for opened in
    let told = c.in_err-len.ensures.shown u size (subst (λ (b : List ℕ). Stands (reading_for opened) b size u) (sym c.split_at.ensures.back) stands) in
    err-exit _ _ c.from_residual.result _ c.from_residual.ensures.1
    (part-after g.O.Output.keeps g.O.Output.failures g.O.Output.stuck g.met.O.Output.chain first c.args.output.now c.put_read.new.output held (text_of nodes had.made) c.args.lines.now.text (line_of nodes u)
    c.put_read.new.lines.text _ had.lines told)
