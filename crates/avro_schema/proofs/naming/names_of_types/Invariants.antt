use Rattle.std.proofs.Common.{◌≡◌, ◌++◌, map, filter_map, drop}
use Rattle.avro_schema.specs.Node.{node_name}
use Rattle.avro_schema.specs.Seen.{nodes_of}
use Rattle.avro_schema.proofs.naming.names_of_types.Given as goal

abbrev pub invariant-loop-node : goal.invariant-loop-node
invariant-loop-node l = map (λ n. n.now) l.names.items ++ filter_map node_name (nodes_of (drop l.node-index l.nodes)) ≡ filter_map node_name (nodes_of l.nodes)
