use Rattle.avro_display.specs.Table.{value_at}
use Rattle.avro_schema.specs.Seen.{values_of}
use Rattle.avro_show.proofs.Taken.{item_is}
use Rattle.avro_show.proofs.resolved.ResolvedDisplayed.item.Goals as goal

pub returns-in-Items-clause-shows : goal.returns-in-Items-clause-shows
returns-in-Items-clause-shows c =
    let self = c.args.self.now in
    rw c.in-Items.is (λ d h. c.value_part.ensures.shows self.plan.now self.table.now (value_at h.0 c.args.index) d
    (item_is self.plan.now c.in-Items.pair (values_of c.in-Items.items.now) h.0 c.args.index h.1) h.2)

pub returns-in-Default-clause-shows : goal.returns-in-Default-clause-shows
returns-in-Default-clause-shows c =
    let self = c.args.self.now in
    let shown = rw self.same at c.item.ensures.shows in
    rw c.in-Default.is (λ d h. c.as_default.ensures.shows self.plan.now self.table.now d (shown d h))
