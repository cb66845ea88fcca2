use Rattle.std.proofs.Common.{◌≡◌, ◌++◌, Some, drop}
use Rattle.std.specs.Prelude.{string_bytes, option_map}
use Rattle.avro_schema.specs.SeenSchema.{schema_nodes}
use Rattle.avro_answer.specs.PlaceText.{way_text}
use Rattle.avro_answer.proofs.named_place.push_way.Given as goal

abbrev pub invariant-loop-step : goal.invariant-loop-step
invariant-loop-step l = string_bytes l.text ++ way_text (schema_nodes l.schema) (option_map (λ id. id.0) l.here) (drop l.step-index l.way)
    ≡ string_bytes l.initial.text ++ way_text (schema_nodes l.schema) (Some 0) l.way
