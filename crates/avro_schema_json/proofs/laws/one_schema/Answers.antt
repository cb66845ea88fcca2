use Rattle.avro_schema_json.proofs.DeclarationLaws.{at_most_one_schema}
use Rattle.avro_schema_json.proofs.laws.one_schema.Goals as goal

pub returns : goal.returns
returns c = at_most_one_schema
