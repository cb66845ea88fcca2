use Rattle.std.proofs.Common.{◌≡◌, drop}
use Rattle.std.specs.List.{list_all}
use Rattle.avro_certificate.specs.CertificateText.{is_small_pair}
use Rattle.avro_certificate.specs.SeenPair.{pairs_of}
use Rattle.avro_certificate.proofs.checks.small_pairs.Given as goal

abbrev pub invariant-loop-pair : goal.invariant-loop-pair
invariant-loop-pair l = list_all is_small_pair (pairs_of (drop l.pair-index l.pairs)) ≡ list_all is_small_pair (pairs_of l.pairs)
