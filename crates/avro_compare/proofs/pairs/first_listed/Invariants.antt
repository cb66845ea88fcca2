use Rattle.std.proofs.Common.{◌≡◌, drop}
use Rattle.indexmap.specs.IndexSet.{keys}
use Rattle.avro_schema.specs.Node.{node_at}
use Rattle.avro_schema.specs.SeenSchema.{schema_nodes}
use Rattle.avro_compare.specs.inside.TypeNames.{listed}
use Rattle.avro_compare.proofs.pairs.first_listed.Given as goal

abbrev pub invariant-loop-index : goal.invariant-loop-index
invariant-loop-index l =
    listed (schema_nodes l.writer) (schema_nodes l.reader) (node_at (schema_nodes l.writer) l.w.0) l.places l.fn.first (keys l.types)
    ≡ listed (schema_nodes l.writer) (schema_nodes l.reader) (node_at (schema_nodes l.writer) l.w.0) l.places l.best (drop l.index (keys l.types))
