use Rattle.std.proofs.Common.{◌≡◌, drop}
use Rattle.std.specs.List.{list_all}
use Rattle.avro_schema.specs.Seen.{ids_of}
use Rattle.avro_certificate.specs.Closed.{is_among}
use Rattle.avro_certificate.specs.SeenCertificate.{dead_of}
use Rattle.avro_certificate.proofs.closing.has_dead_branches.Given as goal

abbrev pub invariant-loop-id : goal.invariant-loop-id
invariant-loop-id l =
    list_all (is_among (dead_of l.certificate)) (ids_of (drop l.id-index l.ids)) ≡ list_all (is_among (dead_of l.certificate)) (ids_of l.ids)
