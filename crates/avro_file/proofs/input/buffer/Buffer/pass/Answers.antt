-- What is left of the bytes begins further on.
use Rattle.std.proofs.Common.{arith}
use Rattle.std.proofs.lemmas.List.{length-take, length-drop}
use Rattle.avro_file.proofs.Storage.{passed}
use Rattle.avro_file.proofs.input.buffer.Buffer.pass.Goals as goal

pub returns : goal.returns
returns c = grind (arith, length-drop, length-take, passed)
