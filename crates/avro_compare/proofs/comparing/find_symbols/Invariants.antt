use Rattle.std.proofs.Common.{◌≡◌, length}
use Rattle.avro_schema.specs.Node.{node_at}
use Rattle.avro_schema.specs.SeenSchema.{schema_nodes}
use Rattle.avro_compare.specs.Pairs.{IsSymbol}
use Rattle.avro_compare.specs.Resolve.{enum_as, symbol_at}
use Rattle.avro_compare.proofs.public.Planning.{Holds}
use Rattle.avro_compare.proofs.comparing.find_symbols.Given as goal

abbrev pub invariant-loop-index : goal.invariant-loop-index
invariant-loop-index l =
    Holds (λ k s. IsSymbol (enum_as (symbol_at (node_at (schema_nodes l.names.0) l.w.0) k) (node_at (schema_nodes l.names.1) l.r.0)) s) l.found.items × (length l.found.items ≡ l.index)
