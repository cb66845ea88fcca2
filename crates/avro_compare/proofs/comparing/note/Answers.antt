use Rattle.std.proofs.Common.{arith}
use Rattle.avro_compare.proofs.FieldsNoted.{noted_past}
use Rattle.avro_compare.proofs.comparing.note.Goals as goal

pub returns-else-index-len : goal.returns-else-index-len
returns-else-index-len c = noted_past c.args.found.now.items c.args.index c.args.at (omega (arith, c.if-index-len.false, c.len.ensures))
