use Rattle.std.proofs.Common.{◌∙◌, refl, sym, ap}
use Rattle.std.specs.Prelude.{option_map}
use Rattle.avro_show.specs.Showing.{shown, shown_node}
use Rattle.avro_display.proofs.public.Opened.{branch_opened}
use Rattle.avro_show.proofs.opening.opened_branch.Goals as goal

pub returns-in-Some-clause-opens : goal.returns-in-Some-clause-opens
returns-in-Some-clause-opens c = λ s u d taken shows.
    let d = shown c.args.table.now c.args.id u in
    let opening = ap (option_map (λ text. text.now)) (sym c.in-Some.is) ∙ c.part_opening.ensures in
    (d, rw shows (branch_opened (shown_node c.args.table.now c.args.id) d c.in-Some.opening.now opening), (u, taken, refl))
