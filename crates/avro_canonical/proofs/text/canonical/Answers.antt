use Rattle.std.proofs.Common.{string_bytes}
use Rattle.avro_schema.specs.SeenSchema.{schema_nodes}
use Rattle.avro_canonical.specs.inside.Pending.{pendings_of}
use Rattle.avro_canonical.proofs.StepsTaken.{begins_last}
use Rattle.avro_canonical.proofs.text.canonical.Goals as goal

pub returns-in-None : goal.returns-in-None
returns-in-None c =
    begins_last (schema_nodes c.args.schema.now) c.loop.marks.items (pendings_of c.loop.parts.items) (string_bytes c.loop.text) c.in-None.ensures c.loop.invariant
