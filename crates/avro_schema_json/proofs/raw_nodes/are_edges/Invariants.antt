use Rattle.avro_schema_json.proofs.Words.{◌≡◌, drop, list_all, ids_of, is_edge, all_without_defaults}
use Rattle.avro_schema_json.proofs.raw_nodes.are_edges.Given as goal

abbrev pub invariant-loop-branch : goal.invariant-loop-branch
invariant-loop-branch l =
    list_all (is_edge (all_without_defaults l.raws) l.from) (ids_of l.branches) ≡ list_all (is_edge (all_without_defaults l.raws) l.from) (ids_of (drop l.branch-index l.branches))
