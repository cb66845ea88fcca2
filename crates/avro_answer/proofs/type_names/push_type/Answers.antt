use Rattle.std.proofs.Common.{◌∙◌, Option, sym, ap}
use Rattle.std.specs.Prelude.{option_map, string_bytes}
use Rattle.avro_schema.specs.SeenSchema.{schema_nodes}
use Rattle.avro_schema.specs.declared.schema.NodeId.{NodeId}
use Rattle.avro_answer.proofs.TypeLevels.{level_more}
use Rattle.avro_answer.proofs.type_names.push_type.Goals as goal

pub loop-level-preserved : goal.loop-level-preserved
loop-level-preserved c =
    level_more (schema_nodes c.args.schema.now) c.loop-level._level c.loop-level.id.0 c.in-Some.held.0 (string_bytes c.loop-level.text) (string_bytes c.push_level.new.text)
    _ c.loop-level-test.true c.loop-level.invariant c.in_ok-held.ensures.text (sym (ap (λ (o : Option NodeId). option_map (λ i. i.0) o) c.in-Some.is) ∙ c.in_ok-held.ensures.held)
