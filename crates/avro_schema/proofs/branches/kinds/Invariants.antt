use Rattle.std.proofs.Common.{◌≡◌, ◌++◌, map, filter_map, drop}
use Rattle.std.specs.List.{list_all}
use Rattle.avro_schema.specs.Seen.{nodes_of, ids_of}
use Rattle.avro_schema.specs.SeenKind.{kind_of, kind_at, has_kind}
use Rattle.avro_schema.proofs.branches.kinds.Given as goal

abbrev pub invariant-loop-branch : goal.invariant-loop-branch
invariant-loop-branch l =
    (list_all (has_kind (nodes_of l.nodes)) (ids_of l.branches) ≡ list_all (has_kind (nodes_of l.nodes)) (ids_of (drop l.branch-index l.branches)))
    × (map kind_of l.kinds.items ++ filter_map (kind_at (nodes_of l.nodes)) (ids_of (drop l.branch-index l.branches)) ≡ filter_map (kind_at (nodes_of l.nodes)) (ids_of l.branches))
