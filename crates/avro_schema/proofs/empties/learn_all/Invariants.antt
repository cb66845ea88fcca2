use Rattle.std.proofs.Common.{◌≤◌, length}
use Rattle.avro_schema.specs.Empties.{AreEmpties}
use Rattle.avro_schema.specs.Seen.{nodes_of}
use Rattle.avro_schema.proofs.empties.learn_all.Given as goal

abbrev pub invariant-loop-left : goal.invariant-loop-left
invariant-loop-left l = record {
  few : l.left ≤ length l.nodes;
  found : AreEmpties (nodes_of l.nodes) l.initial.known.items → AreEmpties (nodes_of l.nodes) l.known.items;
}

abbrev pub decreases-loop-left : goal.decreases-loop-left
decreases-loop-left l = l.left
