-- One property more, and what stops the next.
use Rattle.std.proofs.Common.{◌<◌, arith}
use Rattle.std.proofs.lemmas.Result.{err_from_is_err_and}
use Rattle.avro_file.specs.Held.{held}
use Rattle.avro_file.specs.inside.HeaderParts.{left_after}
use Rattle.avro_file.proofs.Behind.{then_refused, takes_then, takes_none, reports_not_failed}
use Rattle.avro_file.proofs.Taken.{properties_none, properties_push, next_stops}
use Rattle.avro_file.proofs.header.properties.take_properties.Goals as goal

pub loop-done-init : goal.loop-done-init
loop-done-init g c = (
  takes_none g.I.Input.gives g.I.Input.failures g.met.I.Input.none c.args.reach.limit _ (held c.args.buffer.now),
  omega arith,
  c.requires.begins,
  omega arith,
  λ left few are distinct. properties_none left _ c.args.at (held c.args.buffer.now) _ c.requires.begins distinct are,
  omega arith,
)

pub loop-done-preserved : goal.loop-done-preserved
loop-done-preserved g c =
    let old = held c.loop-done.buffer in
    let new = held c.take_property.new.buffer in
    let inv = c.loop-done.invariant in
    let took = c.in_ok-end.ensures.took in
    let found = c.in_ok-end.ensures.found in (
      takes_then g.I.Input.gives g.I.Input.failures g.met.I.Input.chain c.args.reach.limit _ _ _ (held c.args.buffer.now) old new inv.0 took,
      omega (arith, c.loop-done-test.true),
      found.stretch.inside,
      omega (arith, inv.3, c.in_ok-end.ensures.within, found.stretch.offset),
      λ left few are distinct. properties_push g.I.Input.gives _ _ old new left _ _ c.loop-done.done c.args.at c.loop-done.end c.in_ok-end.end _ _ _ took.grown (inv.4 left few are distinct) found,
      omega (arith, inv.5, found.stretch.offset),
    )

pub returns-in_err-end-clause-lost : goal.returns-in_err-end-clause-lost
returns-in_err-end-clause-lost g c =
    let p = err_from_is_err_and c.from_residual.result c.from_residual.ensures.1 in
    rw (p.1, p.2) (then_refused g.I.Input.gives g.I.Input.failures g.met.I.Input.chain c.args.reach.limit _ _ _ (held c.args.buffer.now) (held c.loop-done.buffer) (held c.take_property.new.buffer)
    c.in_err-end.field-0.0 c.loop-done.invariant.0 c.in_err-end.ensures.lost)

pub returns-in_err-end-clause-refused : goal.returns-in_err-end-clause-refused
returns-in_err-end-clause-refused g c =
    let p = err_from_is_err_and c.from_residual.result c.from_residual.ensures.1 in
    rw (p.1, p.2) (λ f left is few are distinct.
    let old = held c.loop-done.buffer in
    let new = held c.take_property.new.buffer in
    let so_far = c.loop-done.invariant.4 left few are distinct in
    let below = c.loop-done-test.true in
    let some : 0 < (left_after left so_far.properties).nodes = omega (arith, so_far.counted, below, few) in
    next_stops g.I.Input.gives _ _ old new c.args.reach.limit (g.I.Input.ended c.take_property.new.input) left _ c.args.count c.loop-done.done c.args.at c.loop-done.end _ _ f
    (c.in_err-end.ensures.lost.grown (reports_not_failed _ f is)) so_far below
    (c.in_err-end.ensures.refused f (left_after left so_far.properties) is some so_far.named))
