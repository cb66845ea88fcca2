use Rattle.avro_schema.specs.Empties.{AreEmpties}
use Rattle.avro_schema.specs.Seen.{nodes_of}
use Rattle.avro_schema.proofs.empties.find_empties.Given as goal

abbrev pub invariant-loop-round : goal.invariant-loop-round
invariant-loop-round l = AreEmpties (nodes_of l.nodes) l.known.items
