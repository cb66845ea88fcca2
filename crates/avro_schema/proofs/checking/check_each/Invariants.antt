use Rattle.std.proofs.Common.{◌≡◌, drop}
use Rattle.avro_schema.specs.Seen.{nodes_of}
use Rattle.avro_schema.specs.WellFormed.{are_good_nodes}
use Rattle.avro_schema.proofs.checking.check_each.Given as goal

abbrev pub invariant-loop-i : goal.invariant-loop-i
invariant-loop-i l = are_good_nodes (nodes_of l.nodes) 0 (nodes_of l.nodes) ≡ are_good_nodes (nodes_of l.nodes) l.i (nodes_of (drop l.i l.nodes))
