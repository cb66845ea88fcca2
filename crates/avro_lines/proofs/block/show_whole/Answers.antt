-- The data are all held, or the block was walked over.
use Rattle.std.proofs.Common.{◌≡◌, List, ℕ, sym, subst, ◌∙◌, rules, length}
use Rattle.avro_schema.specs.Value.{no_values}
use Rattle.avro_file.specs.BlockFails.{DataAreWhole}
use Rattle.avro_file.proofs.public.Data.{whole-none}
use Rattle.avro_lines.specs.inside.DataShown.{FirstStops}
use Rattle.avro_lines.specs.inside.OpenedSeen.{ShowsBlock, reading_for, shown_for}
use Rattle.avro_lines.proofs.Helds.{cut-off, shown-first, shown-walked, shown-whole}
use Rattle.avro_lines.proofs.Parts.{puts-still}
use Rattle.avro_lines.proofs.block.show_whole.Goals as goal

pub returns-then-to-body : goal.returns-then-to-body
returns-then-to-body g c =
    let r = reading_for c.args.opened.now in
    let nodes = shown_for c.args.opened.now in
    let block = c.args.block.now in
    let count = c.count-count.result in
    let out = c.put_long in
    let had = shown-first g.O.Output.keeps g.O.Output.failures g.met.O.Output.none r nodes _ _ c.args.output.now c.args.lines.now.text _ (c.hold_lines-to.ensures.holds no_values (whole-none r)) in
    let done : c.hold_lines-to.result.done ≡ count = search rules in
    let start : c.hold_lines-to.result.start ≡ length c.body-body.result.now = search rules in
    subst (λ (n : ℕ). ShowsBlock g.O.Output.keeps g.O.Output.failures g.O.Output.stuck c.args.opened.now block.number n n block.body.items c.args.output.now c.args.lines.now.text out.new.output out.new.lines.text out.result)
    c.count-count.ensures
    (subst (λ (b : List ℕ). ShowsBlock g.O.Output.keeps g.O.Output.failures g.O.Output.stuck c.args.opened.now block.number count count b c.args.output.now c.args.lines.now.text out.new.output out.new.lines.text out.result)
    c.body-body.ensures
    (shown-whole g.O.Output.keeps g.O.Output.failures g.O.Output.stuck g.met.O.Output.chain r nodes block.number count _ _ c.body-body.result.now c.args.output.now c.args.output.now out.new.output
    c.args.lines.now.text _ out.new.lines.text out.result done start had out.ensures))

pub returns-in-Ok : goal.returns-in-Ok
returns-in-Ok g c =
    let r = reading_for c.args.opened.now in
    let nodes = shown_for c.args.opened.now in
    let block = c.args.block.now in
    let out = c.show_rest in
    let (made, walked) = c.in-Ok.ensures.found in
    let whole = subst (λ (b : List ℕ). DataAreWhole r c.count-count.result b made) (sym c.body-body.ensures) (subst (λ (n : ℕ). DataAreWhole r n block.body.items made) (sym c.count-count.ensures) walked) in
    let had = shown-first g.O.Output.keeps g.O.Output.failures g.met.O.Output.none r nodes _ _ c.args.output.now c.args.lines.now.text _ (c.hold_lines-to.ensures.holds no_values (whole-none r)) in
    subst (λ (n : ℕ). ShowsBlock g.O.Output.keeps g.O.Output.failures g.O.Output.stuck c.args.opened.now block.number block.count n block.body.items c.args.output.now c.args.lines.now.text out.new.output out.new.lines.text out.result)
    c.count-count.ensures
    (shown-walked g.O.Output.keeps g.O.Output.failures g.O.Output.stuck r nodes block.number block.count c.count-count.result block.body.items c.args.output.now out.new.output c.args.lines.now.text
    out.new.lines.text made out.result walked (out.ensures c.args.output.now c.args.lines.now.text made whole had))

pub returns-in-Err : goal.returns-in-Err
returns-in-Err g c =
    let r = reading_for c.args.opened.now in
    let same = c.truncate.ensures ∙ cut-off r (shown_for c.args.opened.now) no_values _ c.len-held.result _ c.args.lines.now.text _ c.len-held.ensures (c.hold_lines-to.ensures.holds no_values (whole-none r)) in
    FirstStops.not_walked (record { refused = c.in-Err.ensures.refused; memory = c.in-Err.ensures.memory }) (puts-still g.O.Output.keeps g.O.Output.failures g.met.O.Output.none c.args.output.now c.args.lines.now.text c.truncate.new.self same)
