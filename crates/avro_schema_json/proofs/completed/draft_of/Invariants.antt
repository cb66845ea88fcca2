use Rattle.avro_schema_json.proofs.Words.{◌≡◌, ◌+◌, ◌++◌, length, into_iter_items, draft_nodes, lists_seen, nodes_with_defaults, raw_nodes_of}
use Rattle.avro_schema_json.proofs.completed.draft_of.Given as goal

abbrev pub invariant-loop-raw : goal.invariant-loop-raw
invariant-loop-raw l =
    (draft_nodes l.draft ++ nodes_with_defaults (raw_nodes_of (into_iter_items l.raw-iterator)) (lists_seen (into_iter_items l.rest))
    ≡ nodes_with_defaults (raw_nodes_of l.fn.raws.items) (lists_seen l.fn.defaults.items))
    × (length (draft_nodes l.draft) + length (into_iter_items l.raw-iterator) ≡ length l.fn.raws.items)
