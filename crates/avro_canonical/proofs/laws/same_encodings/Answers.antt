use Rattle.avro_canonical.proofs.SameEncodings.{same_encodings}
use Rattle.avro_canonical.proofs.laws.same_encodings.Goals as goal

pub returns : goal.returns
returns c = same_encodings
