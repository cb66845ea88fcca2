use Rattle.std.proofs.Common.{◌≡◌, ◌++◌, ℕ, List, drop}
use Rattle.std.specs.Prelude.{string_bytes}
use Rattle.avro_schema.specs.SeenSchema.{schema_nodes}
use Rattle.avro_answer.specs.inside.FaultsAdded.{HavePlaces, AreLeft}
use Rattle.avro_answer.proofs.fault_lines.put_lines.Given as goal

abbrev pub invariant-loop-fault : goal.invariant-loop-fault
invariant-loop-fault g l =
    (HavePlaces l.found.places.items l.found.faults.items
    → (put : List ℕ) × g.O.Output.keeps l.initial.out put l.out
    × AreLeft l.form (schema_nodes l.writer) (schema_nodes l.reader) l.found.places.items l.found.faults.items (drop l.fault-index l.found.faults.items) l.later
    (string_bytes l.initial.text) (put ++ string_bytes l.text))
    × (g.O.Output.failures l.out ≡ g.O.Output.failures l.initial.out)
