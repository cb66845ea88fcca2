use Rattle.std.proofs.Common.{◌≡◌, ◌++◌, drop, flat_map}
use Rattle.avro_certificate.specs.CertificateText.{dead_line}
use Rattle.avro_certificate.proofs.writing.write_dead.Given as goal

abbrev pub invariant-loop-number : goal.invariant-loop-number
invariant-loop-number l = l.text.items ++ flat_map dead_line (drop l.number-index l.dead) ≡ l.fn.text.items ++ flat_map dead_line l.dead
