-- The block was walked over, and its first lines are shown.
use Rattle.std.proofs.Common.{List, ℕ, refl, sym, subst}
use Rattle.avro_schema.specs.Value.{no_values}
use Rattle.avro_file.specs.BlockFails.{DataAreWhole}
use Rattle.avro_file.proofs.public.Data.{whole-none}
use Rattle.avro_lines.specs.inside.DataShown.{FirstStops}
use Rattle.avro_lines.specs.inside.OpenedSeen.{reading_for, shown_for}
use Rattle.avro_lines.proofs.Helds.{shown-first, shown-walked}
use Rattle.avro_lines.proofs.Parts.{puts-still}
use Rattle.avro_lines.proofs.block.show_part.Goals as goal

pub returns-in-Ok : goal.returns-in-Ok
returns-in-Ok g c =
    let r = reading_for c.args.opened.now in
    let nodes = shown_for c.args.opened.now in
    let block = c.args.block.now in
    let (made, walked) = c.in-Ok.ensures.found in
    let whole = subst (λ (b : List ℕ). DataAreWhole r c.count-all.result b made) (sym c.body-body.ensures) (subst (λ (n : ℕ). DataAreWhole r n block.body.items made) (sym c.count-all.ensures) walked) in
    let had = shown-first g.O.Output.keeps g.O.Output.failures g.met.O.Output.none r nodes _ _ c.args.output.now c.args.lines.now.text _ (c.hold_lines-to.ensures.holds no_values (whole-none r)) in
    shown-walked g.O.Output.keeps g.O.Output.failures g.O.Output.stuck r nodes block.number block.count c.args.count block.body.items c.args.output.now c.show_rest.new.output c.args.lines.now.text
    c.show_rest.new.lines.text made c.show_rest.result walked (c.show_rest.ensures c.args.output.now c.args.lines.now.text made whole had)

pub returns-in-Err : goal.returns-in-Err
returns-in-Err g c =
    FirstStops.not_walked (record { refused = c.in-Err.ensures.refused; memory = c.in-Err.ensures.memory }) (puts-still g.O.Output.keeps g.O.Output.failures g.met.O.Output.none c.args.output.now c.args.lines.now.text c.args.lines.now.text refl)
