use Rattle.std.proofs.Common.{◌≡◌, drop}
use Rattle.std.specs.List.{list_all}
use Rattle.avro_schema.specs.Seen.{nodes_of, ids_of}
use Rattle.avro_schema.specs.WellFormed.{is_edge}
use Rattle.avro_schema.proofs.checking.are_edges.Given as goal

abbrev pub invariant-loop-id : goal.invariant-loop-id
invariant-loop-id l = list_all (is_edge (nodes_of l.nodes) l.from) (ids_of l.ids) ≡ list_all (is_edge (nodes_of l.nodes) l.from) (ids_of (drop l.id-index l.ids))
