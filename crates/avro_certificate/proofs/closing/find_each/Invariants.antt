use Rattle.std.proofs.Common.{◌≡◌, drop}
use Rattle.std.specs.List.{list_all}
use Rattle.avro_schema.specs.SeenSchema.{schema_nodes}
use Rattle.avro_compare.specs.Planned.{AreComparisons}
use Rattle.avro_certificate.specs.Closed.{is_closed_at}
use Rattle.avro_certificate.specs.SeenCertificate.{dead_of, pairs_in}
use Rattle.avro_certificate.specs.SeenPair.{pairs_of}
use Rattle.avro_certificate.proofs.closing.find_each.Given as goal

abbrev pub invariant-loop-pair : goal.invariant-loop-pair
invariant-loop-pair l =
    (list_all (is_closed_at (schema_nodes l.writer) (schema_nodes l.reader) (dead_of l.certificate) (pairs_in l.certificate)) (pairs_of (drop l.pair-index l.pairs))
    ≡ list_all (is_closed_at (schema_nodes l.writer) (schema_nodes l.reader) (dead_of l.certificate) (pairs_in l.certificate)) (pairs_in l.certificate))
    × AreComparisons (schema_nodes l.writer) (schema_nodes l.reader) l.found.items
