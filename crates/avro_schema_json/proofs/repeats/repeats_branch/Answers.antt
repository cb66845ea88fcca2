use Rattle.avro_schema_json.proofs.Words.{arith, all_without_defaults}
use Rattle.avro_schema_json.proofs.RepeatsSeen.{repeat-found, repeat-next}
use Rattle.avro_schema_json.proofs.repeats.repeats_branch.Goals as goal

pub returns-then-not-branch : goal.returns-then-not-branch
returns-then-not-branch c = grind (arith, repeat-found)

pub loop-branch-preserved : goal.loop-branch-preserved
loop-branch-preserved c =
    repeat-next (all_without_defaults c.args.raws.now) c.args.branches.now c.loop-branch.codes c.add.new.codes c.loop-branch.branch-index _ c.code_of-code.result
    c.loop-branch-test.true c.code_of-code.ensures c.in_ok-add.ensures.added c.loop-branch.invariant
