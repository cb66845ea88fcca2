use Rattle.std.proofs.Common.{ℕ, List, [], map, refl, sym, ◌∙◌, subst, ap}
use Rattle.avro_certificate.specs.CertificateText.{dead_line}
use Rattle.avro_certificate.specs.inside.CertificateLines.{bounded}
use Rattle.avro_certificate.proofs.LineTexts.{HasRead, read_one, shorter, dead_line_some, map_id}
use Rattle.avro_certificate.proofs.sets.read_dead.Goals as goal

pub loop-number-init : goal.loop-number-init
loop-number-init c = record { values = []; written = refl; seen = ap (map (λ (n : ℕ). n)) c.new-dead.ensures.items }

pub loop-number-preserved : goal.loop-number-preserved
loop-number-preserved c =
    let line = c.in-Some.ensures in
    subst (λ (l : List ℕ). HasRead dead_line (λ n. n) bounded l c.args.text.now c.in-Some.more.now) (sym c.in_ok-push.ensures.items)
    (read_one dead_line (λ n. n) bounded c.loop-number.dead.items c.args.text.now c.loop-number.rest.now c.in-Some.more.now line.0 c.in-Some.number
    c.loop-number.invariant line.1 line.2)

pub loop-number-smaller : goal.loop-number-smaller
loop-number-smaller c =
    let line = c.in-Some.ensures in
    shorter dead_line dead_line_some line.0 c.loop-number.rest.now c.in-Some.more.now line.1

pub returns-clause-found : goal.returns-clause-found
returns-clause-found c =
    let read = c.loop-number.invariant in
    let none = c.in_default.ensures in
    (read.values, read.written, sym (map_id c.loop-number.dead.items) ∙ read.seen, none)
