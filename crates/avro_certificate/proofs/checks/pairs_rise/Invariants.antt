use Rattle.std.proofs.Common.{◌≡◌, drop}
use Rattle.std.specs.Prelude.{option_map}
use Rattle.avro_certificate.specs.CertificateText.{is_rising, is_before}
use Rattle.avro_certificate.specs.SeenPair.{pair_of, pairs_of}
use Rattle.avro_certificate.proofs.public.Rising.{rises_after}
use Rattle.avro_certificate.proofs.checks.pairs_rise.Given as goal

abbrev pub invariant-loop-pair : goal.invariant-loop-pair
invariant-loop-pair l = rises_after is_before (option_map pair_of l.last) (pairs_of (drop l.pair-index l.pairs)) ≡ is_rising is_before (pairs_of l.pairs)
