use Rattle.std.proofs.Common.{◌≡◌, length}
use Rattle.avro_schema.specs.Empties.{AreEmpties}
use Rattle.avro_schema.specs.Runs.{AreAllRuns}
use Rattle.avro_schema.specs.Seen.{nodes_of}
use Rattle.avro_schema.proofs.runs.find_runs.Given as goal

abbrev pub invariant-loop-i : goal.invariant-loop-i
invariant-loop-i l = record {
  count : length l.lists.items ≡ l.i;
  found : AreEmpties (nodes_of l.nodes) l.known → AreAllRuns (nodes_of l.nodes) l.lists.items;
}
