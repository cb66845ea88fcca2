use Rattle.avro_schema_json.proofs.Words.{arith}
use Rattle.avro_schema_json.proofs.WalkSeen.{known-part}
use Rattle.avro_schema_json.proofs.defaults.walk.part_mark.Goals as goal

pub returns : goal.returns
returns c = grind (arith, known-part)
