use Rattle.std.proofs.Common.{ℕ, length}
use Rattle.avro_certificate.specs.CertificateText.{dead_line}
use Rattle.avro_certificate.specs.inside.CertificateLines.{bounded}
use Rattle.avro_certificate.proofs.LineTexts.{HasRead}
use Rattle.avro_certificate.proofs.sets.read_dead.Given as goal

abbrev pub invariant-loop-number : goal.invariant-loop-number
invariant-loop-number l = HasRead dead_line (λ (n : ℕ). n) bounded l.dead.items l.text l.rest

abbrev pub decreases-loop-number : goal.decreases-loop-number
decreases-loop-number l = length l.rest
