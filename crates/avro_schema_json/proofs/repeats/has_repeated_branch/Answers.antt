use Rattle.avro_schema_json.proofs.Words.{arith}
use Rattle.avro_schema_json.proofs.RepeatsSeen.{some-repeats}
use Rattle.avro_schema_json.proofs.repeats.has_repeated_branch.Goals as goal

pub returns-then-branch : goal.returns-then-branch
returns-then-branch c = grind (arith, some-repeats)
