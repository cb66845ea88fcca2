use Rattle.avro_schema_json.proofs.Words.{◌≡◌, ◌++◌, ◌&&◌, map, drop, list_all, IfSome, are_defaults_read, are_all_defaults_read, all_without_defaults, lists_seen, defaults_of_node, raw_nodes_of}
use Rattle.avro_schema_json.specs.inside.Tables.{IsMarking}
use Rattle.avro_schema_json.proofs.completed.defaults_by_tables.Given as goal

abbrev pub invariant-loop-raw : goal.invariant-loop-raw
invariant-loop-raw l =
    let nodes = all_without_defaults l.raws in
    let left = raw_nodes_of (drop l.raw-index l.raws) in
    (lists_seen l.of_nodes.items ++ map (defaults_of_node nodes) left ≡ map (defaults_of_node nodes) (raw_nodes_of l.raws))
    × ((l.are_read && list_all (are_defaults_read nodes) left) ≡ are_all_defaults_read (raw_nodes_of l.raws))
    × IfSome l.marking (IsMarking nodes)
