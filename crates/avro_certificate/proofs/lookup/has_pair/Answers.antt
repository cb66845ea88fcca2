use Rattle.std.proofs.Common.{◌≡◌, true, List, sym, ◌∙◌, subst, ap, arith}
use Rattle.avro_compare.specs.Children.{Pair}
use Rattle.avro_certificate.specs.Closed.{same_pair, is_among_pairs}
use Rattle.avro_certificate.specs.CertificateText.{is_rising, is_before}
use Rattle.avro_certificate.specs.SeenPair.{pair_of}
use Rattle.avro_certificate.proofs.Halving.{pair_past, pair_at, other_number, test_here, test_elsewhere}
use Rattle.avro_certificate.proofs.lookup.has_pair.Goals as goal

pub returns-in-None : goal.returns-in-None
returns-in-None c = grind (arith, pair_past)

pub returns-then-pair-w : goal.returns-then-pair-w
returns-then-pair-w c =
    let t : Pair = record { w = c.args.w; r = c.args.r } in
    let rising = subst (λ (l : List Pair). is_rising is_before l ≡ true) (sym c.pairs-pairs.ensures.pairs) c.pairs-pairs.ensures.rising in
    let point = c.position_of-position.ensures rising in
    let found = c.in-Some.ensures.lookup in
    let test = test_here c.in-Some.pair.now.0 c.in-Some.pair.now.1 c.args.w c.args.r c.if-pair-w.true in
    pair_at c.pairs-pairs.result.now t c.position_of-position.result c.in-Some.pair.now _ rising point found.3.0
    (test ∙ ap (λ y. same_pair t (pair_of y)) found.1) ∙ ap (λ l. is_among_pairs l t) c.pairs-pairs.ensures.pairs

pub returns-else-pair-w : goal.returns-else-pair-w
returns-else-pair-w c =
    let t : Pair = record { w = c.args.w; r = c.args.r } in
    let rising = subst (λ (l : List Pair). is_rising is_before l ≡ true) (sym c.pairs-pairs.ensures.pairs) c.pairs-pairs.ensures.rising in
    let point = c.position_of-position.ensures rising in
    let found = c.in-Some.ensures.lookup in
    let test = test_elsewhere c.in-Some.pair.now.0 c.in-Some.pair.now.1 c.args.w c.args.r c.if-pair-w.false in
    other_number c.in-Some.pair.now.0 c.args.w c.if-pair-w.false
    ∙ pair_at c.pairs-pairs.result.now t c.position_of-position.result c.in-Some.pair.now _ rising point found.3.0
    (test ∙ ap (λ y. same_pair t (pair_of y)) found.1) ∙ ap (λ l. is_among_pairs l t) c.pairs-pairs.ensures.pairs
