use Rattle.std.proofs.Common.{◌≡◌, drop}
use Rattle.avro_schema.specs.Fits.{each_fits, entries_fit, fields_fit}
use Rattle.avro_schema.specs.Node.{node_at, field_ids}
use Rattle.avro_schema.specs.Seen.{values_of, entries_of, nodes_of, seen_fields}
use Rattle.avro_schema.proofs.fitting.+fitting.Given as goal

abbrev pub invariant-each_fits-loop-item : goal.invariant-each_fits-loop-item
invariant-each_fits-loop-item l =
    let node = node_at (nodes_of l.nodes) l.id.0 in
    each_fits (nodes_of l.nodes) node (values_of l.items) ≡ each_fits (nodes_of l.nodes) node (values_of (drop l.item-index l.items))

abbrev pub invariant-entries_fit-loop-entry : goal.invariant-entries_fit-loop-entry
invariant-entries_fit-loop-entry l =
    let node = node_at (nodes_of l.nodes) l.id.0 in
    entries_fit (nodes_of l.nodes) node (entries_of l.entries) ≡ entries_fit (nodes_of l.nodes) node (entries_of (drop l.entry-index l.entries))

abbrev pub invariant-fields_fit-loop-i : goal.invariant-fields_fit-loop-i
invariant-fields_fit-loop-i l =
    fields_fit (nodes_of l.nodes) (field_ids (seen_fields l.fields)) (values_of l.values)
    ≡ fields_fit (nodes_of l.nodes) (field_ids (seen_fields (drop l.i l.fields))) (values_of (drop l.i l.values))
