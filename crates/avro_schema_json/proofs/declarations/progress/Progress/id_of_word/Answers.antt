use Rattle.avro_schema_json.proofs.Words.{arith}
use Rattle.avro_schema_json.proofs.KnownFound.{found_in, named_alone}
use Rattle.avro_schema_json.proofs.declarations.progress.Progress.id_of_word.Goals as goal

pub returns : goal.returns
returns c = grind (arith, found_in, named_alone)
