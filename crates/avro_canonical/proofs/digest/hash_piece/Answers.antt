use Rattle.std.proofs.Common.{arith}
use Rattle.std.proofs.lemmas.List.{append-nil}
use Rattle.avro_canonical.proofs.digest.hash_piece.Goals as goal

pub returns : goal.returns
returns c = grind (arith, append-nil)
