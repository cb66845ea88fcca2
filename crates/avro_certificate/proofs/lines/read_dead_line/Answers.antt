use Rattle.std.proofs.Common.{arith}
use Rattle.avro_certificate.proofs.LineTexts.{dead_line_is, word_same, in_each}
use Rattle.avro_certificate.proofs.lines.read_dead_line.Goals as goal

pub returns-in_err-numeral : goal.returns-in_err-numeral
returns-in_err-numeral c = grind (arith, dead_line_is)

pub returns : goal.returns
returns c = grind (arith, dead_line_is, in_each, word_same)
