use Rattle.avro_schema_json.proofs.DefaultsSeen.{default-first_branch}
use Rattle.avro_schema_json.proofs.laws.first_branch_is_taken.Goals as goal

pub returns : goal.returns
returns c = default-first_branch
