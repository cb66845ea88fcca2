use Rattle.avro_certificate.proofs.Decimal.{Begins}
use Rattle.avro_certificate.proofs.lines.number_of.Given as goal

abbrev pub invariant-loop-i : goal.invariant-loop-i
invariant-loop-i l = Begins l.numeral l.i l.number
