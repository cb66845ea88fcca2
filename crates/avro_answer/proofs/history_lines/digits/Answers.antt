use Rattle.std.proofs.Common.{◌≡◌, ℕ, ◌+◌, ◌%◌, ◌<◌, ◌^◌, [], ◌∷◌, ◌++◌, ◌∙◌, ap, sym, arith}
use Rattle.std.proofs.lemmas.Fmt.{decimal_by_steps}
use Rattle.std.specs.Fmt.{decimal as written}
use Rattle.avro_certificate.specs.CertificateText.{decimal}
use Rattle.avro_certificate.proofs.public.Digits.{decimal_digit, decimal_step}
use Rattle.avro_answer.proofs.history_lines.digits.Goals as goal

-- what is written of a number is its digits
same_digits : (n : ℕ) → n < 2 ^ 64 → decimal n ≡ written n
same_digits =
    decimal_by_steps (λ n text. decimal n ≡ text) decimal_digit
    (λ n text big rest. decimal_step n big ∙ ap (λ t. t ++ ((48 + n % 10) ∷ [])) rest)

pub returns : goal.returns
returns c = c.in_ok-format.ensures.ok ∙ sym (same_digits c.args.number (omega arith))
