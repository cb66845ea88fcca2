use Rattle.std.proofs.Common.{string_bytes}
use Rattle.avro_schema.specs.SeenSchema.{schema_nodes}
use Rattle.avro_canonical.specs.inside.Pending.{pendings_of}
use Rattle.avro_canonical.proofs.StepsTaken.{Begins}
use Rattle.avro_canonical.proofs.text.canonical.Given as goal

abbrev pub invariant-loop : goal.invariant-loop
invariant-loop l = Begins (schema_nodes l.schema) l.marks.items (pendings_of l.parts.items) (string_bytes l.text)
