use Rattle.std.proofs.Common.{◌≡◌, ◌++◌, drop, flat_map}
use Rattle.avro_certificate.specs.CertificateText.{pair_line}
use Rattle.avro_certificate.specs.SeenPair.{pairs_of}
use Rattle.avro_certificate.proofs.writing.write_pairs.Given as goal

abbrev pub invariant-loop-pair : goal.invariant-loop-pair
invariant-loop-pair l = l.text.items ++ flat_map pair_line (pairs_of (drop l.pair-index l.pairs)) ≡ l.fn.text.items ++ flat_map pair_line (pairs_of l.pairs)
