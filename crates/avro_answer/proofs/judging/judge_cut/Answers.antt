use Rattle.std.proofs.Common.{sym, subst}
use Rattle.avro_schema.specs.SeenSchema.{schema_nodes}
use Rattle.avro_answer.specs.JudgeAnswer.{SchemasAnswer}
use Rattle.avro_answer.proofs.Fronts.{cut_of}
use Rattle.avro_answer.proofs.VerdictAnswers.{json_answered}
use Rattle.avro_answer.proofs.judging.judge_cut.Goals as goal

pub returns-in-Ok-clause-answered : goal.returns-in-Ok-clause-answered
returns-in-Ok-clause-answered c = λ is_text. let told = c.in-Ok.ensures.answered is_text in (
  told.0,
  subst (SchemasAnswer (schema_nodes c.args.writer.now) (schema_nodes c.args.reader.now) c.args.limits.now told.0) (sym c.answer.ensures.status) told.1,
  cut_of c.new-front.result c.judge_schemas.new.out c.args.capacity told.0 c.answer.result c.new-front.ensures.empty c.new-front.ensures.capacity told.2
      c.answer.ensures.text c.answer.ensures.length,
)

pub returns-in-Ok-clause-json : goal.returns-in-Ok-clause-json
returns-in-Ok-clause-json c = λ is_json. let told = c.in-Ok.ensures.json is_json in (
  told.0,
  json_answered c.args.writer.now c.args.reader.now c.args.limits.now _ told.0 _ _ c.in-Ok.ensures.right told.1 c.answer.ensures.status,
  cut_of c.new-front.result c.judge_schemas.new.out c.args.capacity told.0 c.answer.result c.new-front.ensures.empty c.new-front.ensures.capacity told.2
      c.answer.ensures.text c.answer.ensures.length,
)
