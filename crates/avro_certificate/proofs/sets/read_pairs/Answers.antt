use Rattle.std.proofs.Common.{ℕ, List, [], map, refl, sym, subst, ap}
use Rattle.avro_certificate.specs.CertificateText.{pair_line}
use Rattle.avro_certificate.specs.inside.CertificateLines.{bounded_pair}
use Rattle.avro_certificate.specs.SeenPair.{pair_of}
use Rattle.avro_certificate.proofs.LineTexts.{HasRead, read_one, shorter, pair_line_some}
use Rattle.avro_certificate.proofs.sets.read_pairs.Goals as goal

pub loop-pair-init : goal.loop-pair-init
loop-pair-init c = record { values = []; written = refl; seen = ap (map pair_of) c.new-pairs.ensures.items }

pub loop-pair-preserved : goal.loop-pair-preserved
loop-pair-preserved c =
    let line = c.in-Some.ensures in
    subst (λ (l : List (ℕ × ℕ)). HasRead pair_line pair_of bounded_pair l c.args.text.now c.in-Some.more.now) (sym c.in_ok-push.ensures.items)
    (read_one pair_line pair_of bounded_pair c.loop-pair.pairs.items c.args.text.now c.loop-pair.rest.now c.in-Some.more.now line.0 c.in-Some.pair
    c.loop-pair.invariant line.1 line.2)

pub loop-pair-smaller : goal.loop-pair-smaller
loop-pair-smaller c =
    let line = c.in-Some.ensures in
    shorter pair_line pair_line_some line.0 c.loop-pair.rest.now c.in-Some.more.now line.1
