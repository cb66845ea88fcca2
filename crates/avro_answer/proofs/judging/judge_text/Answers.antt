use Rattle.std.proofs.lemmas.Result.{err_from_is_err_and}
use Rattle.avro_schema.specs.SeenSchema.{schema_nodes}
use Rattle.avro_answer.proofs.Refused.{reader_of_pair}
use Rattle.avro_answer.proofs.judging.judge_text.Goals as goal

pub returns-in_err-reader-clause-refused : goal.returns-in_err-reader-clause-refused
returns-in_err-reader-clause-refused c =
    let p = err_from_is_err_and c.from_residual-in_err-reader.result c.from_residual-in_err-reader.ensures.1 in
    rw (p.1, p.2) (reader_of_pair c.args.writer.now c.args.reader.now (schema_nodes c.in_ok-writer.writer) c.in_ok-writer.ensures.found
    c.in_err-reader.field-0.0 c.in_err-reader.ensures.refused)

pub returns-clause-answered : goal.returns-clause-answered
returns-clause-answered c = λ is_text. let told = c.in_ok-judge_cut.ensures.answered is_text in (
  told.0,
  record {
    written = schema_nodes c.in_ok-writer.writer;
    read = schema_nodes c.in_ok-reader.reader;
    declares_written = c.in_ok-writer.ensures.found;
    declares_read = c.in_ok-reader.ensures.found;
    answered = told.1;
  },
  told.2,
)

pub returns-clause-json : goal.returns-clause-json
returns-clause-json c = λ is_json. let told = c.in_ok-judge_cut.ensures.json is_json in (
  told.0,
  record {
    written = schema_nodes c.in_ok-writer.writer;
    read = schema_nodes c.in_ok-reader.reader;
    declares_written = c.in_ok-writer.ensures.found;
    declares_read = c.in_ok-reader.ensures.found;
    answered = told.1;
  },
  told.2,
)
