use Rattle.avro_schema_json.proofs.Words.{◌≡◌, ℕ, List, Option, drop, length, option_map, Node, node_at, ids_of, Value, first_fit, each_default, entries_default, fields_default, default_under, fields_seen, own_default, AreFirsts, nodes_of, view, items_view, members_view}
use Rattle.avro_schema_json.proofs.DefaultsSeen.{after_values, after_entries}
use Rattle.avro_schema_json.proofs.WalkSeen.{AreLeft}
use Rattle.avro_schema_json.proofs.defaults.+defaults.Given as goal

abbrev pub invariant-item_defaults-loop-item : goal.invariant-item_defaults-loop-item
invariant-item_defaults-loop-item l =
    let nodes = nodes_of l.walk in
    let node = node_at nodes l.id.0 in
    record {
      firsts : AreFirsts l.walk l.firsts;
      count : length l.values.items ≡ l.item-index;
      left : option_map (after_values l.values.items) (each_default nodes (items_view (drop l.item-index l.item-items)) node) ≡ each_default nodes (items_view l.item-items) node;
    }

abbrev pub invariant-entry_defaults-loop-key : goal.invariant-entry_defaults-loop-key
invariant-entry_defaults-loop-key l =
    let nodes = nodes_of l.walk in
    let node = node_at nodes l.id.0 in
    record {
      firsts : AreFirsts l.walk l.firsts;
      order : AreLeft l.members.entries l.key-iterator (length l.entries.items);
      left : option_map (after_entries l.entries.items) (entries_default nodes (members_view l.key-iterator) node) ≡ entries_default nodes (members_view l.members.entries) node;
    }

abbrev pub invariant-field_defaults-loop-field : goal.invariant-field_defaults-loop-field
invariant-field_defaults-loop-field l =
    let nodes = nodes_of l.walk in
    let under : List ℕ → Option (Node → Option Value) = λ key. default_under nodes key (members_view l.members.entries) in
    record {
      firsts : AreFirsts l.walk l.firsts;
      left : option_map (after_values l.values.items) (fields_default nodes under (drop l.field-index (fields_seen l.fields))) ≡ fields_default nodes under (fields_seen l.fields);
    }

abbrev pub invariant-branch_default-loop-i : goal.invariant-branch_default-loop-i
invariant-branch_default-loop-i l =
    let nodes = nodes_of l.walk in
    record {
      firsts : AreFirsts l.walk l.firsts;
      left : first_fit nodes (own_default nodes (view l.tree)) l.i (ids_of (drop l.i l.ids)) ≡ first_fit nodes (own_default nodes (view l.tree)) 0 (ids_of l.ids);
    }
