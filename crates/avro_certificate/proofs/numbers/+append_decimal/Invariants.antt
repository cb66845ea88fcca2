use Rattle.avro_certificate.proofs.numbers.+append_decimal.Given as goal

abbrev pub decreases-append_decimal : goal.decreases-append_decimal
decreases-append_decimal l = l.number
