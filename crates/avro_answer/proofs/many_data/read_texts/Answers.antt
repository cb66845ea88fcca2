use Rattle.std.proofs.lemmas.Result.{err_from_is_err_and}
use Rattle.std.specs.Prelude.{option_copied}
use Rattle.avro_schema.specs.SeenSchema.{schema_nodes}
use Rattle.avro_answer.proofs.DataTexts.{reader_refused, reader_schema, writer_refused_of, writer_schema}
use Rattle.avro_answer.proofs.many_data.read_texts.Goals as goal

pub returns-in_err-writer-clause-refused : goal.returns-in_err-writer-clause-refused
returns-in_err-writer-clause-refused c =
    let p = err_from_is_err_and c.from_residual.result c.from_residual.ensures.1 in
    rw (p.1, p.2) (writer_refused_of c.args.writer.now (option_copied c.args.reader) c.in_err-writer.field-0.0 c.in_err-writer.ensures.refused)

pub returns-in_err-writer-clause-complete : goal.returns-in_err-writer-clause-complete
returns-in_err-writer-clause-complete c =
    let p = err_from_is_err_and c.from_residual.result c.from_residual.ensures.1 in
    λ all. rw (p.1, p.2) (c.in_err-writer.ensures.complete (writer_schema c.args.writer.now (option_copied c.args.reader) all))

pub returns-in_err-reader-clause-refused : goal.returns-in_err-reader-clause-refused
returns-in_err-reader-clause-refused c =
    let p = err_from_is_err_and c.from_residual-in_err-reader.result c.from_residual-in_err-reader.ensures.1 in
    rw (p.1, p.2) (reader_refused c.args.writer.now (schema_nodes c.in_ok-writer.writer) c.in_ok-writer.ensures.found (option_copied c.args.reader)
    c.in_err-reader.field-0.0 c.in_err-reader.ensures.refused)

pub returns-in_err-reader-clause-complete : goal.returns-in_err-reader-clause-complete
returns-in_err-reader-clause-complete c =
    let p = err_from_is_err_and c.from_residual-in_err-reader.result c.from_residual-in_err-reader.ensures.1 in
    λ all. rw (p.1, p.2) (c.in_err-reader.ensures.complete (reader_schema c.args.writer.now (option_copied c.args.reader) all))
