use Rattle.std.proofs.Common.{arith}
use Rattle.avro_cursor.proofs.content.drop_content.Goals as goal

pub returns : goal.returns
returns c = λ i. omega (arith, c.type_inv._content i)
