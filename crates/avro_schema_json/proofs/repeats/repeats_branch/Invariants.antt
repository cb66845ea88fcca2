use Rattle.avro_schema_json.specs.inside.OwnDefaults.{all_without_defaults}
use Rattle.avro_schema_json.proofs.RepeatsSeen.{AreCodes}
use Rattle.avro_schema_json.proofs.repeats.repeats_branch.Given as goal

abbrev pub invariant-loop-branch : goal.invariant-loop-branch
invariant-loop-branch l = AreCodes (all_without_defaults l.raws) l.branches l.codes l.branch-index
