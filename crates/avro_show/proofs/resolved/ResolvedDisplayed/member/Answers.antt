use Rattle.avro_show.proofs.resolved.ResolvedDisplayed.member.Goals as goal

pub returns-in-Default-clause-shows : goal.returns-in-Default-clause-shows
returns-in-Default-clause-shows c =
    let self = c.args.self.now in
    let shown = rw self.same at c.member.ensures.shows in
    rw c.in-Default.is (λ d h. c.as_default.ensures.shows self.plan.now self.table.now d (shown d h))
