use Rattle.std.proofs.Common.{List}
use Rattle.avro_schema.specs.Empties.{AreEmpties}
use Rattle.avro_schema.specs.Node.{Node as SeenNode}
use Rattle.avro_schema.proofs.empties.nothing_known.Given as goal

abbrev pub invariant-loop-node : goal.invariant-loop-node
invariant-loop-node l = (nodes : List SeenNode) → AreEmpties nodes l.known.items
