use Rattle.std.proofs.Common.{◌≡◌, ◌++◌, ◌-◌}
use Rattle.std.specs.Prelude.{string_bytes}
use Rattle.avro_schema.specs.SeenSchema.{schema_nodes}
use Rattle.avro_answer.specs.PlaceText.{type_text}
use Rattle.avro_answer.proofs.type_names.push_type.Given as goal

abbrev pub invariant-loop-level : goal.invariant-loop-level
invariant-loop-level l = string_bytes l.text ++ type_text (256 - l._level) (schema_nodes l.schema) l.id.0
    ≡ string_bytes l.initial.text ++ type_text 256 (schema_nodes l.schema) l.fn.id.0
