use Rattle.std.proofs.Common.{◌≡◌, ◌-◌}
use Rattle.avro_schema.specs.Node.{node_at}
use Rattle.avro_schema.specs.SeenSchema.{schema_nodes}
use Rattle.avro_compare.specs.Match.{match_within}
use Rattle.avro_compare.proofs.matching.match_within.Given as goal

abbrev pub invariant-loop-done : goal.invariant-loop-done
invariant-loop-done l =
    match_within l.steps (schema_nodes l.writer) (schema_nodes l.reader) (node_at (schema_nodes l.writer) l.fn.w.0) (node_at (schema_nodes l.reader) l.fn.r.0)
    ≡ match_within (l.steps - l._done) (schema_nodes l.writer) (schema_nodes l.reader) (node_at (schema_nodes l.writer) l.a.0) (node_at (schema_nodes l.reader) l.b.0)
