use Rattle.std.proofs.Common.{ap, sym, ◌∙◌}
use Rattle.std.specs.Prelude.{is_some}
use Rattle.avro_schema.specs.SeenSchema.{schema_nodes}
use Rattle.avro_certificate.specs.SeenCertificate.{dead_of, pairs_in}
use Rattle.avro_certificate.proofs.public.Resolving.{closed_compatible}
use Rattle.avro_judge.proofs.confirming.confirm.Goals as goal

pub by-requires-clause-compatible : goal.by-requires-clause-compatible
by-requires-clause-compatible c = closed_compatible (schema_nodes c.args.writer.now) (schema_nodes c.args.reader.now) (dead_of c.args.certificate.now) (pairs_in c.args.certificate.now)
    c.len.ensures.formed (sym c.in_ok-found.ensures.closed ∙ ap is_some c.in-Some.is)
