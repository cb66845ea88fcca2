use Rattle.std.proofs.Common.{refl}
use Rattle.std.specs.Prelude.{option_copied, option_map}
use Rattle.avro_schema.specs.SeenSchema.{schema_nodes}
use Rattle.avro_answer.proofs.DataTexts.{datum_answer, refused}
use Rattle.avro_answer.proofs.data_answers.answer_data.Goals as goal

pub returns-in-Ok : goal.returns-in-Ok
returns-in-Ok c =
    datum_answer (schema_nodes c.args.writer.now) (option_map schema_nodes (option_copied c.args.reader)) c.args.limits.now c.args.form c.args.skip c.args.bytes.now
    c.in-Ok.text.items 0 refl c.in-Ok.ensures.read

pub returns-in-Err : goal.returns-in-Err
returns-in-Err c =
    refused (schema_nodes c.args.writer.now) (option_map schema_nodes (option_copied c.args.reader)) c.args.limits.now c.args.form c.args.skip c.args.bytes.now
    c.in-Err.error c.in-Err.ensures.refused c.refuse_data.result c.refuse_data.ensures
