use Rattle.std.proofs.Common.{refl}
use Rattle.avro_schema.specs.Node.{node_at}
use Rattle.avro_schema.specs.SeenSchema.{schema_nodes}
use Rattle.avro_compare.specs.Match.{match_within}
use Rattle.avro_compare.proofs.Pairing.{from_all, one_less, none_left}
use Rattle.avro_compare.proofs.matching.match_within.Goals as goal

pub loop-done-init : goal.loop-done-init
loop-done-init c =
    let ws = schema_nodes c.args.writer.now in
    let rs = schema_nodes c.args.reader.now in
    from_all ws rs (match_within c.args.steps ws rs (node_at ws c.args.w.0) (node_at rs c.args.r.0)) c.args.steps (node_at ws c.args.w.0) (node_at rs c.args.r.0) refl

pub loop-done-preserved : goal.loop-done-preserved
loop-done-preserved c =
    let ws = schema_nodes c.args.writer.now in
    let rs = schema_nodes c.args.reader.now in
    one_less ws rs (match_within c.args.steps ws rs (node_at ws c.args.w.0) (node_at rs c.args.r.0)) c.args.steps c.loop-done._done
    (node_at ws c.loop-done.a.0) (node_at rs c.loop-done.b.0) (node_at ws c.in-Parts.x.0) (node_at rs c.in-Parts.y.0)
    c.loop-done-test.true c.in-Parts.ensures.0 c.loop-done.invariant

pub returns-in-Parts-step : goal.returns-in-Parts-step
returns-in-Parts-step c =
    let ws = schema_nodes c.args.writer.now in
    let rs = schema_nodes c.args.reader.now in
    none_left ws rs (match_within c.args.steps ws rs (node_at ws c.args.w.0) (node_at rs c.args.r.0)) c.args.steps c.loop-done._done
    (node_at ws c.loop-done.a.0) (node_at rs c.loop-done.b.0)
    c.loop-done-test.false c.in-Parts-step.ensures.1 c.loop-done.invariant
