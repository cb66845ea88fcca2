use Rattle.std.proofs.lemmas.Result.{err_from_is_err_and}
use Rattle.avro_schema.specs.SeenSchema.{schema_nodes}
use Rattle.avro_tool.proofs.Refusing.{is_schema, reader_two, writer_two}
use Rattle.avro_tool.proofs.files.schema.read_pair.Goals as goal

pub returns-in_err-written-clause-refused : goal.returns-in_err-written-clause-refused
returns-in_err-written-clause-refused g c =
    let p = err_from_is_err_and c.from_residual.result c.from_residual.ensures.1 in
    rw (p.1, p.2) (writer_two (g.T.Texts.known c.args.texts.now) c.args.writer.now c.args.reader.now c.in_err-written.field-0.0 c.in_err-written.ensures.refused)

pub returns-in_err-read-clause-refused : goal.returns-in_err-read-clause-refused
returns-in_err-read-clause-refused g c =
    let known = g.T.Texts.known c.args.texts.now in
    let p = err_from_is_err_and c.from_residual-in_err-read.result c.from_residual-in_err-read.ensures.1 in
    rw (p.1, p.2) (reader_two known c.args.writer.now c.args.reader.now (is_schema (known c.args.writer.now) (schema_nodes c.in_ok-written.written.1) c.in_ok-written.ensures.found)
    c.in_err-read.field-0.0 c.in_err-read.ensures.refused)
