use Rattle.std.proofs.Common.{◌∙◌, List, sym, ap, subst, reverse}
use Rattle.avro_explain.specs.Ways.{follow, IsWayTo}
use Rattle.avro_explain.specs.declared.found.PathStep.{PathStep}
use Rattle.avro_explain.proofs.WaysFollowed.{way_none, way_next, way_whole}
use Rattle.avro_explain.proofs.paths.way_to.Goals as goal

pub loop-before-init : goal.loop-before-init
loop-before-init c = λ writer reader p placed got.
    way_none writer reader c.args.places.now c.args.at p c.new.result.items c.new-2.result.items got c.new.ensures.items c.new-2.ensures.items

pub loop-before-preserved : goal.loop-before-preserved
loop-before-preserved c = λ writer reader p placed got.
    way_next writer reader c.args.places.now c.args.at c.loop-before.here p c.loop-before.way.writer.items c.loop-before.way.reader.items
    c.add_step.new.way.writer.items c.add_step.new.way.reader.items (c.in-Some.before, c.in-Some.step)
    (c.loop-before.invariant writer reader p placed got) placed (λ q here. c.in-Some.ensures.from q here) c.in_ok-add_step.ensures.writer c.in_ok-add_step.ensures.reader

pub returns-clause-writer : goal.returns-clause-writer
returns-clause-writer c = λ writer reader p placed got.
    ap (λ (steps : List PathStep). follow writer 0 steps) c.reverse.ensures.items
    ∙ (way_whole writer reader c.args.places.now c.args.at c.loop-before.here p c.loop-before.way.writer.items c.loop-before.way.reader.items
    (c.loop-before.invariant writer reader p placed got) placed c.in_default.ensures.none).0

pub returns-clause-reader : goal.returns-clause-reader
returns-clause-reader c = λ writer reader p placed got.
    ap (λ (steps : List PathStep). follow reader 0 steps) c.reverse-2.ensures.items
    ∙ (way_whole writer reader c.args.places.now c.args.at c.loop-before.here p c.loop-before.way.writer.items c.loop-before.way.reader.items
    (c.loop-before.invariant writer reader p placed got) placed c.in_default.ensures.none).1

pub returns-clause-ways : goal.returns-clause-ways
returns-clause-ways c = λ writer reader p placed got.
    let places = c.args.places.now in
    let in_writer = c.loop-before.way.writer.items in
    let in_reader = c.loop-before.way.reader.items in
    let whole = way_whole writer reader places c.args.at c.loop-before.here p in_writer in_reader
    (c.loop-before.invariant writer reader p placed got) placed c.in_default.ensures.none in
    subst (λ (steps : List PathStep). IsWayTo places c.args.at steps c.reverse-2.new.self.items) (sym c.reverse.ensures.items)
    (subst (λ (steps : List PathStep). IsWayTo places c.args.at (reverse in_writer) steps) (sym c.reverse-2.ensures.items) whole.2)
