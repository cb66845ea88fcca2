use Rattle.std.proofs.Common.{◌≡◌, ◌≤◌, ◌-◌, length, true, false}
use Rattle.std.specs.List.{AllWithin}
use Rattle.avro_certificate.specs.CertificateText.{is_rising, is_before}
use Rattle.avro_certificate.specs.SeenPair.{pair_of, pairs_of}
use Rattle.avro_certificate.proofs.lookup.position_of.Given as goal

abbrev pub invariant-loop-low : goal.invariant-loop-low
invariant-loop-low l = (l.low ≤ l.high) × (l.high ≤ length l.pairs) × (is_rising is_before (pairs_of l.pairs) ≡ true
    → AllWithin (λ y. is_before (pair_of y) (pair_of l.other) ≡ true) l.pairs 0 l.low
    × AllWithin (λ y. is_before (pair_of y) (pair_of l.other) ≡ false) l.pairs l.high (length l.pairs))

abbrev pub decreases-loop-low : goal.decreases-loop-low
decreases-loop-low l = l.high - l.low
