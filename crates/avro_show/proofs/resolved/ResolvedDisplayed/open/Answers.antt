use Rattle.avro_display.specs.Plain.{plain_levels}
use Rattle.avro_show.proofs.resolved.ResolvedDisplayed.open.Goals as goal

pub returns-in-Written-clause-opens : goal.returns-in-Written-clause-opens
returns-in-Written-clause-opens c = rw c.in-Written.is (λ d h. c.opened_written.ensures.opens h.0 d h.1 h.2)

pub returns-in-Targeted-clause-opens : goal.returns-in-Targeted-clause-opens
returns-in-Targeted-clause-opens c = rw c.in-Targeted.is (λ d h. c.opened_targeted.ensures.opens h.0 d h.1 h.2)

pub returns-in-Default-clause-opens : goal.returns-in-Default-clause-opens
returns-in-Default-clause-opens c =
    let self = c.args.self.now in
    let opened = rw self.same at c.open.ensures.opens in
    rw c.in-Default.is (λ d h. c.opened_default.ensures.opens self.plan.now self.table.now d (opened d h))

pub returns-in-Default-clause-levels : goal.returns-in-Default-clause-levels
returns-in-Default-clause-levels c = rw c.in-Default.is (c.opened_default.ensures.levels c.args.self.now.plan.now (plain_levels c.in-Default.plain) c.open.ensures.levels)
