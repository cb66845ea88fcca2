use Rattle.std.proofs.Common.{◌≡◌, drop}
use Rattle.std.specs.List.{list_all}
use Rattle.avro_certificate.specs.CertificateText.{is_small}
use Rattle.avro_certificate.proofs.checks.small_numbers.Given as goal

abbrev pub invariant-loop-number : goal.invariant-loop-number
invariant-loop-number l = list_all is_small (drop l.number-index l.numbers) ≡ list_all is_small l.numbers
