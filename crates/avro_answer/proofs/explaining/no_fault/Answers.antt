use Rattle.std.proofs.Common.{refl}
use Rattle.json.specs.Print.{escape_byte}
use Rattle.avro_answer.proofs.explaining.no_fault.Goals as goal

pub returns-in-Json-clause-json : goal.returns-in-Json-clause-json
unfolding escape_byte
returns-in-Json-clause-json c = λ _. refl
