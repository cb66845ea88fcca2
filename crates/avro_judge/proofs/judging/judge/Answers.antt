use Rattle.std.proofs.Common.{subst}
use Rattle.avro_schema.specs.SeenSchema.{schema_nodes}
use Rattle.avro_judge.specs.inside.Judged.{IsJudged}
use Rattle.avro_judge.proofs.Exclusive.{not_above, not_deep}
use Rattle.avro_judge.proofs.judging.judge.Goals as goal

pub returns-in_ok-table-in-Compatible-clause-size : goal.returns-in_ok-table-in-Compatible-clause-size
returns-in_ok-table-in-Compatible-clause-size c =
    let writer = schema_nodes c.args.writer.now in
    let reader = schema_nodes c.args.reader.now in
    let judged = subst (λ j. IsJudged writer reader c.size.result c.depth-depth.result j) c.in-Compatible.is c.in_ok-judged.ensures.judged in
    ((λ n. absurd n), (λ h. not_above writer reader c.args.limits.now.size judged.0 h.1))

pub returns-in_ok-table-in-Compatible-clause-depth : goal.returns-in_ok-table-in-Compatible-clause-depth
returns-in_ok-table-in-Compatible-clause-depth c =
    let writer = schema_nodes c.args.writer.now in
    let reader = schema_nodes c.args.reader.now in
    let judged = subst (λ j. IsJudged writer reader c.size.result c.depth-depth.result j) c.in-Compatible.is c.in_ok-judged.ensures.judged in
    ((λ n. absurd n), (λ h. not_deep writer reader c.args.limits.now.size c.args.limits.now.limits.depth judged.0 h.1))
