use Rattle.std.proofs.Common.{◌+◌, max, sym, subst}
use Rattle.std.specs.Prelude.{option_map}
use Rattle.avro_schema.specs.SeenSchema.{schema_nodes}
use Rattle.avro_answer.proofs.DataLines.{LinesSoFar, no_lines, one_line, all_lines}
use Rattle.avro_answer.proofs.many_data.answer_each.Goals as goal

pub loop-index-init : goal.loop-index-init
loop-index-init c =
    let W = schema_nodes c.args.plan.now.0 in
    let R = option_map schema_nodes c.args.plan.now.1 in
    let B = c.args.bytes.now in
    subst (λ t. LinesSoFar W R c.args.limits.now c.args.skip B c.args.lengths.now B 0 t 0) (sym c.new-text.ensures.items)
    (no_lines W R c.args.limits.now c.args.skip B c.args.lengths.now)

pub loop-index-preserved : goal.loop-index-preserved
loop-index-preserved c =
    let W = schema_nodes c.args.plan.now.0 in
    let R = option_map schema_nodes c.args.plan.now.1 in
    let L = c.args.limits.now in
    let S = c.args.skip in
    let B = c.args.bytes.now in
    let N = c.args.lengths.now in
    let text = c.loop-index.text.items in
    let told = c.in_ok-told.told in
    let (line, is_told, put) = c.in_ok-told.ensures in
    subst (λ s. LinesSoFar W R L S B N c.cut.result.1.now (c.loop-index.index + 1) c.append_line.new.text.items s) (sym c.max-status.ensures)
    (subst (λ t. LinesSoFar W R L S B N c.cut.result.1.now (c.loop-index.index + 1) t (max told c.loop-index.status)) (sym put)
    (one_line W R L S B N c.loop-index.rest.now c.loop-index.index text c.loop-index.status c.loop-index.invariant
    c.cut.result.0.now c.cut.result.1.now c.loop-index-test.true c.cut.ensures.front c.cut.ensures.back line told is_told))

pub returns : goal.returns
returns c =
    all_lines (schema_nodes c.args.plan.now.0) (option_map schema_nodes c.args.plan.now.1) c.args.limits.now c.args.skip c.args.bytes.now c.args.lengths.now
    c.loop-index.rest.now c.loop-index.index c.loop-index.text.items c.loop-index.status c.loop-index.invariant c.loop-index-test.false
