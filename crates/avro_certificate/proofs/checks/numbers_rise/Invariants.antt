use Rattle.std.proofs.Common.{◌≡◌, drop}
use Rattle.std.specs.Prelude.{nat_lt}
use Rattle.avro_certificate.specs.CertificateText.{is_rising}
use Rattle.avro_certificate.proofs.public.Rising.{rises_after}
use Rattle.avro_certificate.proofs.checks.numbers_rise.Given as goal

abbrev pub invariant-loop-number : goal.invariant-loop-number
invariant-loop-number l = rises_after nat_lt l.last (drop l.number-index l.numbers) ≡ is_rising nat_lt l.numbers
