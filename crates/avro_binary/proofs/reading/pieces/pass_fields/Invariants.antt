use Rattle.std.proofs.Common.{List, take}
use Rattle.avro_schema.specs.Value.{Value}
use Rattle.avro_schema.specs.Node.{field_ids}
use Rattle.avro_schema.specs.Seen.{seen_fields}
use Rattle.avro_schema.specs.SeenSchema.{schema_nodes}
use Rattle.avro_binary.proofs.PieceSteps.{PiecesDone}
use Rattle.avro_binary.proofs.reading.pieces.pass_fields.Given as goal

-- the values of the fields before one were passed, and their ends are listed
abbrev pub invariant-loop-field : goal.invariant-loop-field
invariant-loop-field l =
    (xs : List Value) × PiecesDone (schema_nodes l.schema) (take l.field-index (field_ids (seen_fields l.fields))) l.initial.cursor l.cursor xs l.ends.items
