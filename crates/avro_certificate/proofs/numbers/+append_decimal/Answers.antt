use Rattle.std.proofs.Common.{◌≡◌, ◌+◌, ◌/◌, ◌%◌, [], ◌∷◌, arith, append_assoc}
use Rattle.avro_certificate.specs.CertificateText.{decimal}
use Rattle.avro_certificate.proofs.public.Digits.{decimal_digit, decimal_step}
use Rattle.avro_certificate.proofs.numbers.+append_decimal.Goals as goal
use Rattle.avro_certificate.proofs.numbers.+append_decimal.Goals.{then-number-ge10+in_ok-append_decimal, else-number-ge10}

pub returns : goal.returns
returns t c = elim c.if-number-ge10.branch [
  | then-number-ge10+in_ok-append_decimal w ↦
      cc (
        c.in_ok-push.ensures.items,
        w.in_ok-append_decimal.ensures,
        w.text-is,
        decimal_step c.args.number w.if-number-ge10.true,
        append_assoc c.args.text.now.items (decimal (c.args.number / 10)) ((48 + c.args.number % 10) ∷ []),
      )
  | else-number-ge10 w ↦
      let low : c.args.number % 10 ≡ c.args.number = omega (arith, w.if-number-ge10.false) in
      cc (c.in_ok-push.ensures.items, w.text-is, decimal_digit c.args.number (omega (arith, w.if-number-ge10.false)), low)
]
