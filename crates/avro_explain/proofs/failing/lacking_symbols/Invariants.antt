use Rattle.std.proofs.Common.{◌≡◌, ◌++◌, drop}
use Rattle.avro_schema.specs.Node.{node_at}
use Rattle.avro_schema.specs.Seen.{texts_of}
use Rattle.avro_schema.specs.SeenSchema.{schema_nodes}
use Rattle.avro_explain.specs.inside.Walks.{untaken_from}
use Rattle.avro_explain.proofs.failing.lacking_symbols.Given as goal

abbrev pub invariant-loop-index : goal.invariant-loop-index
invariant-loop-index l =
    untaken_from (node_at (schema_nodes l.names.1) l.pair.r.0) 0 (texts_of l.symbols)
    ≡ l.found.items ++ untaken_from (node_at (schema_nodes l.names.1) l.pair.r.0) l.index (drop l.index (texts_of l.symbols))
