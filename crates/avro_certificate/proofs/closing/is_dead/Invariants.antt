use Rattle.std.proofs.Common.{◌≡◌, ◌&&◌, drop, length}
use Rattle.std.specs.Prelude.{nat_lt}
use Rattle.std.specs.List.{list_all}
use Rattle.avro_schema.specs.Node.{node_at}
use Rattle.avro_schema.specs.SeenSchema.{schema_nodes}
use Rattle.avro_certificate.specs.Closed.{is_dead, is_dead_node}
use Rattle.avro_certificate.specs.SeenCertificate.{dead_of}
use Rattle.avro_certificate.proofs.closing.is_dead.Given as goal

abbrev pub invariant-loop-number : goal.invariant-loop-number
invariant-loop-number l =
    list_all (λ id. nat_lt id (length (schema_nodes l.writer)) && is_dead_node (dead_of l.certificate) (node_at (schema_nodes l.writer) id)) (drop l.number-index l.dead)
    ≡ is_dead (schema_nodes l.writer) (dead_of l.certificate)
