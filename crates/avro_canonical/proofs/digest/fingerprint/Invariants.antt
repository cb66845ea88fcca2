use Rattle.std.proofs.Common.{ℕ, List, ◌++◌, string_bytes}
use Rattle.sha2.specs.Hashers.{Holds256}
use Rattle.avro_schema.specs.SeenSchema.{schema_nodes}
use Rattle.avro_canonical.specs.inside.Pending.{pendings_of}
use Rattle.avro_canonical.proofs.StepsTaken.{Begins}
use Rattle.avro_canonical.proofs.digest.fingerprint.Given as goal

-- what is hashed and what is gathered, one after the other, begin the form
abbrev pub invariant-loop : goal.invariant-loop
invariant-loop l =
    (hashed : List ℕ) × Holds256 l.hasher hashed × Begins (schema_nodes l.schema) l.marks.items (pendings_of l.parts.items) (hashed ++ string_bytes l.text)
