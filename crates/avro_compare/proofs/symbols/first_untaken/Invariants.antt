use Rattle.std.proofs.Common.{◌≡◌}
use Rattle.avro_schema.specs.Node.{node_at}
use Rattle.avro_schema.specs.SeenSchema.{schema_nodes}
use Rattle.avro_compare.specs.Children.{first_lacking}
use Rattle.avro_compare.proofs.FirstLacking.{lacking_from}
use Rattle.avro_compare.proofs.symbols.first_untaken.Given as goal

abbrev pub invariant-loop-index : goal.invariant-loop-index
invariant-loop-index l =
    first_lacking (node_at (schema_nodes l.names.0) l.w.0) (node_at (schema_nodes l.names.1) l.r.0)
    ≡ lacking_from (node_at (schema_nodes l.names.0) l.w.0) (node_at (schema_nodes l.names.1) l.r.0) l.index
