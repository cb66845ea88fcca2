use Rattle.avro_schema_json.proofs.DeclarationLaws.{is_schema-from_declared}
use Rattle.avro_schema_json.proofs.laws.declared_is_schema.Goals as goal

pub returns : goal.returns
returns c = is_schema-from_declared
