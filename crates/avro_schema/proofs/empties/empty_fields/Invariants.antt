use Rattle.std.proofs.Common.{◌≡◌, ◌≤◌, true, List, length, drop}
use Rattle.avro_schema.specs.Empties.{AreEmpties, empty_datum, empty_parts, have_measure}
use Rattle.avro_schema.specs.Node.{Node as SeenNode, node_at, field_ids}
use Rattle.avro_schema.specs.Seen.{seen_fields}
use Rattle.avro_schema.proofs.empties.empty_fields.Given as goal

abbrev pub invariant-loop-left : goal.invariant-loop-left
invariant-loop-left l = record {
  few : l.left ≤ length l.fields;
  found : (nodes : List SeenNode) → AreEmpties nodes l.known
      → have_measure l.all.nodes l.all.depth (empty_parts (λ id. empty_datum l.all.depth nodes (node_at nodes id)) (field_ids (seen_fields (drop l.left l.fields)))) ≡ true;
}

abbrev pub decreases-loop-left : goal.decreases-loop-left
decreases-loop-left l = l.left
