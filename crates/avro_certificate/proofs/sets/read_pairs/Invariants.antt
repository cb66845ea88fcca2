use Rattle.std.proofs.Common.{length}
use Rattle.avro_certificate.specs.CertificateText.{pair_line}
use Rattle.avro_certificate.specs.inside.CertificateLines.{bounded_pair}
use Rattle.avro_certificate.specs.SeenPair.{pair_of}
use Rattle.avro_certificate.proofs.LineTexts.{HasRead}
use Rattle.avro_certificate.proofs.sets.read_pairs.Given as goal

abbrev pub invariant-loop-pair : goal.invariant-loop-pair
invariant-loop-pair l = HasRead pair_line pair_of bounded_pair l.pairs.items l.text l.rest

abbrev pub decreases-loop-pair : goal.decreases-loop-pair
decreases-loop-pair l = length l.rest
