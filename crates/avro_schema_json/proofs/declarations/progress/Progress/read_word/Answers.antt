use Rattle.avro_schema_json.proofs.Words.{arith}
use Rattle.avro_schema_json.proofs.declarations.progress.Progress.read_word.Goals as goal

pub returns-in-TypeName-clause-refused : goal.returns-in-TypeName-clause-refused
returns-in-TypeName-clause-refused c = grind arith
