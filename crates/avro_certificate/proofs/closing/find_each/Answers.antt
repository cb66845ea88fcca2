use Rattle.std.proofs.Common.{◌≡◌, ◌∙◌, sym, true, rules}
use Rattle.avro_schema.specs.SeenSchema.{schema_nodes}
use Rattle.avro_certificate.specs.Closed.{is_closed_at}
use Rattle.avro_certificate.specs.SeenCertificate.{dead_of, pairs_in}
use Rattle.avro_certificate.proofs.ClosedParts.{pairs_next}
use Rattle.avro_certificate.proofs.closing.find_each.Goals as goal

pub loop-pair-preserved : goal.loop-pair-preserved
loop-pair-preserved c =
    let test = is_closed_at (schema_nodes c.args.writer.now) (schema_nodes c.args.reader.now) (dead_of c.args.certificate.now) (pairs_in c.args.certificate.now) in
    let closed : c.in_ok-is_closed_at.field-0 ≡ true = search rules in
    (pairs_next test c.pairs-pairs.result.now c.loop-pair.pair-index c.loop-pair-test.true (sym c.in_ok-is_closed_at.ensures.closed ∙ closed) ∙ c.loop-pair.invariant.0, c.in_ok-is_closed_at.ensures.found c.loop-pair.invariant.1)
