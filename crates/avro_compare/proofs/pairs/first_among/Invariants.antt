use Rattle.std.proofs.Common.{◌≡◌, drop}
use Rattle.avro_schema.specs.Node.{node_at}
use Rattle.avro_schema.specs.Seen.{ids_of}
use Rattle.avro_schema.specs.SeenSchema.{schema_nodes}
use Rattle.avro_compare.specs.Match.{first_match, first_match_from}
use Rattle.avro_compare.proofs.pairs.first_among.Given as goal

abbrev pub invariant-loop-index : goal.invariant-loop-index
invariant-loop-index l =
    first_match (schema_nodes l.writer) (schema_nodes l.reader) (node_at (schema_nodes l.writer) l.w.0) (ids_of l.branches)
    ≡ first_match_from l.index (schema_nodes l.writer) (schema_nodes l.reader) (node_at (schema_nodes l.writer) l.w.0) (ids_of (drop l.index l.branches))
