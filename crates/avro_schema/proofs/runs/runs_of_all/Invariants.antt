use Rattle.std.proofs.Common.{◌≡◌, ◌≤◌, true, List, length, drop}
use Rattle.avro_schema.specs.Empties.{AreEmpties}
use Rattle.avro_schema.specs.Node.{Node as SeenNode, field_ids}
use Rattle.avro_schema.specs.Runs.{AreRuns, is_run}
use Rattle.avro_schema.specs.Seen.{seen_fields}
use Rattle.avro_schema.proofs.runs.runs_of_all.Given as goal

abbrev pub invariant-loop-left : goal.invariant-loop-left
invariant-loop-left l = record {
  few : l.left ≤ length l.fields;
  next : (nodes : List SeenNode) → AreEmpties nodes l.known → is_run nodes (drop l.left (field_ids (seen_fields l.fields))) l.run ≡ true;
  kept : (nodes : List SeenNode) → AreEmpties nodes l.known → AreRuns nodes (field_ids (seen_fields l.fields)) l.runs.items;
}

abbrev pub decreases-loop-left : goal.decreases-loop-left
decreases-loop-left l = l.left
