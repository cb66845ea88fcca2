use Rattle.std.specs.Prelude.{option_map}
use Rattle.avro_schema.specs.SeenSchema.{schema_nodes}
use Rattle.avro_answer.proofs.DataLines.{LinesSoFar}
use Rattle.avro_answer.proofs.many_data.answer_each.Given as goal

abbrev pub invariant-loop-index : goal.invariant-loop-index
invariant-loop-index l =
    LinesSoFar (schema_nodes l.plan.0) (option_map schema_nodes l.plan.1) l.limits l.skip l.bytes l.lengths l.rest l.index l.text.items l.status
