use Rattle.std.proofs.Common.{arith}
use Rattle.avro_schema_json.specs.inside.Repeats.{HasDistinctNames}
use Rattle.avro_schema_json.proofs.NodesSeen.{next-node, all-nodes}
use Rattle.avro_schema_json.proofs.RepeatsSeen.{some-names}
use Rattle.avro_schema_json.proofs.repeats.has_repeated_field.Goals as goal

pub returns-then-branch-clause-found : goal.returns-then-branch-clause-found
returns-then-branch-clause-found c = grind (arith, some-names)

pub loop-i-preserved : goal.loop-i-preserved
loop-i-preserved c =
    next-node c.args.raws.now c.loop-i.i c.index-raws-i.result (λ m n. HasDistinctNames n) (λ m n. HasDistinctNames n) c.loop-i-test.true c.index-raws-i.is
    (λ m n has. has) (c.in_ok-repeats_field.ensures.distinct c.if-branch.false) c.loop-i.invariant

pub returns-clause-distinct : goal.returns-clause-distinct
returns-clause-distinct c = λ answer. all-nodes c.args.raws.now c.loop-i.i (λ m n. HasDistinctNames n) c.loop-i-test.false (λ m past. tt) c.loop-i.invariant
