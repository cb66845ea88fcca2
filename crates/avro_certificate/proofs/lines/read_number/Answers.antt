use Rattle.std.proofs.Common.{arith}
use Rattle.avro_certificate.proofs.LineTexts.{rest_of, cut_at, number_in_front, no_number}
use Rattle.avro_certificate.proofs.lines.read_number.Goals as goal

pub returns-in_err-length : goal.returns-in_err-length
returns-in_err-length c =
    let none = c.in_err-length.ensures in
    rw c.from_residual.ensures (λ n more. no_number c.args.text.now c.args.stop n more none)

pub returns-in_err-number : goal.returns-in_err-number
returns-in_err-number c = grind (arith, number_in_front)

pub returns : goal.returns
returns c = grind (arith, cut_at, rest_of)
