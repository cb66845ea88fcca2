-- A property that was taken, or what stops it.
use Rattle.std.proofs.Common.{true, arith}
use Rattle.std.specs.Prelude.{string_bytes}
use Rattle.std.proofs.lemmas.Option.{none-some}
use Rattle.std.proofs.lemmas.Result.{err_from_is_err_and}
use Rattle.avro_file.specs.Filled.{GrowsBy}
use Rattle.avro_file.specs.Held.{held}
use Rattle.avro_file.proofs.Behind.{memory_refused, then_refused, takes_then, reports_not_failed}
use Rattle.avro_file.proofs.PropertyRuns.{stretch_grown}
use Rattle.avro_file.proofs.Taken.{name_stops, value_stops, takes_property}
use Rattle.avro_file.proofs.header.properties.take_property.Goals as goal

pub returns-in_err-name-clause-refused : goal.returns-in_err-name-clause-refused
returns-in_err-name-clause-refused g c = grind (arith, err_from_is_err_and, name_stops)

pub returns-in_err-start-clause-lost : goal.returns-in_err-start-clause-lost
returns-in_err-start-clause-lost g c =
    let p = err_from_is_err_and c.from_residual-in_err-start.result c.from_residual-in_err-start.ensures.1 in
    rw (p.1, p.2) (then_refused g.I.Input.gives g.I.Input.failures g.met.I.Input.chain c.args.reach.limit _ _ _ (held c.args.buffer.now) (held c.take_name.new.buffer) (held c.take_content.new.buffer)
    c.in_err-start.field-0.0 c.in_ok-name.ensures.took c.in_err-start.ensures.lost)

pub returns-in_err-start-clause-refused : goal.returns-in_err-start-clause-refused
returns-in_err-start-clause-refused g c =
    let p = err_from_is_err_and c.from_residual-in_err-start.result c.from_residual-in_err-start.ensures.1 in
    rw (p.1, p.2) (λ f left is some are.
    let mid = held c.take_name.new.buffer in
    let new = held c.take_content.new.buffer in
    let name = c.in_ok-name.ensures.found in
    let grown : GrowsBy g.I.Input.gives _ _ mid new = c.in_err-start.ensures.lost.grown (reports_not_failed _ f is) in
    value_stops c.args.reach.limit c.args.at c.in_ok-name.middle (g.I.Input.ended c.take_content.new.input) new (string_bytes c.in_ok-name.name) name.front left f
    (stretch_grown g.I.Input.gives _ _ mid new c.args.at c.in_ok-name.middle name.front grown name.stretch) name.stands (name.fresh left.keys are) some
    (c.in_err-start.ensures.refused f (λ content. true) is))

pub returns-clause-found : goal.returns-clause-found
returns-clause-found g c = grind (arith, takes_property)

pub returns-clause-took : goal.returns-clause-took
returns-clause-took g c =
    takes_then g.I.Input.gives g.I.Input.failures g.met.I.Input.chain c.args.reach.limit _ _ _ (held c.args.buffer.now) (held c.take_name.new.buffer) (held c.take_content.new.buffer)
    c.in_ok-name.ensures.took c.in_ok-start.ensures.took

pub returns-in_err-add_property-clause-lost : goal.returns-in_err-add_property-clause-lost
returns-in_err-add_property-clause-lost g c =
    let p = err_from_is_err_and c.from_residual-in_err-add_property.result c.from_residual-in_err-add_property.ensures.1 in
    rw (p.1, p.2) (memory_refused g.I.Input.gives g.I.Input.failures g.met.I.Input.chain c.args.reach.limit _ _ _ _
    (takes_then g.I.Input.gives g.I.Input.failures g.met.I.Input.chain c.args.reach.limit _ _ _ (held c.args.buffer.now) (held c.take_name.new.buffer) (held c.take_content.new.buffer)
    c.in_ok-name.ensures.took c.in_ok-start.ensures.took))

pub returns-in_err-add_property-clause-refused : goal.returns-in_err-add_property-clause-refused
returns-in_err-add_property-clause-refused g c = grind (arith, err_from_is_err_and, none-some)
