use Rattle.std.proofs.Common.{◌≡◌, ◌∙◌, true, false, ap, sym, subst, rules}
use Rattle.std.specs.Prelude.{nat_lt, length}
use Rattle.avro_schema.specs.SeenSchema.{schema_nodes}
use Rattle.avro_schema.specs.declared.schema.NodeId.{NodeId}
use Rattle.avro_schema.specs.declared.schema.Schema.{Schema}
use Rattle.avro_compare.specs.Planned.{AreComparisons, IsComparison}
use Rattle.avro_certificate.specs.Closed.{is_among}
use Rattle.avro_certificate.specs.SeenCertificate.{dead_of, pairs_in}
use Rattle.avro_certificate.specs.inside.ClosedParts.{closed_live}
use Rattle.avro_certificate.proofs.ClosedParts.{live_pair}
use Rattle.avro_certificate.proofs.public.Tests.{each_more}
use Rattle.avro_certificate.proofs.closing.is_closed_at.Goals as goal

pub returns-clause-closed : goal.returns-clause-closed
returns-clause-closed c =
    let writer = schema_nodes c.args.writer.now in
    let reader = schema_nodes c.args.reader.now in
    let dead = dead_of c.args.certificate.now in
    let pairs = pairs_in c.args.certificate.now in
    let kept = c.in_ok-kept.kept in
    let closed = c.in_ok-closed.closed in
    let live : closed ≡ closed_live writer reader dead pairs kept.w.0 kept.r.0 =
    subst (λ (s : Schema × Schema). closed ≡ closed_live (schema_nodes s.0) (schema_nodes s.1) dead pairs kept.w.0 kept.r.0) c.requires c.in_ok-closed.ensures in
    let here : closed ≡ closed_live writer reader dead pairs c.args.pair.0 c.args.pair.1 =
    live ∙ ap (λ (w : NodeId). closed_live writer reader dead pairs w.0 kept.r.0) c.in_ok-kept.ensures.1
    ∙ ap (λ (r : NodeId). closed_live writer reader dead pairs c.args.pair.0 r.0) c.in_ok-kept.ensures.2 in
    let in_writer : nat_lt c.args.pair.0 (length writer) ≡ true = search rules in
    let in_reader : nat_lt c.args.pair.1 (length reader) ≡ true = search rules in
    let alive : is_among dead c.args.pair.0 ≡ false = search rules in
    here ∙ live_pair _ _ _ _ in_writer in_reader alive

pub returns-clause-found : goal.returns-clause-found
returns-clause-found c = λ before.
    let writer = schema_nodes c.args.writer.now in
    let reader = schema_nodes c.args.reader.now in
    let pair = c.in_ok-kept.kept in
    let own = subst (λ s. IsComparison (schema_nodes s.0) (schema_nodes s.1) pair) c.requires c.in_ok-kept.ensures.0 in
    subst (λ ps. AreComparisons writer reader ps) (sym c.in_ok-push.ensures.items) (each_more (IsComparison writer reader) c.args.found.now.items pair before own)
