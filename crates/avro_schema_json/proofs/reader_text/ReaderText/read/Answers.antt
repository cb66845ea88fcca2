use Rattle.std.proofs.lemmas.Result.{err_from_is_err_and}
use Rattle.avro_schema_json.proofs.reader_text.ReaderText.read.Goals as goal

pub returns-in_err-schema-clause-complete : goal.returns-in_err-schema-clause-complete
returns-in_err-schema-clause-complete c = λ tree nodes has declares short.
    let p = err_from_is_err_and c.from_residual.result c.from_residual.ensures.1 in
    rw (p.1, p.2) (c.in_err-schema.ensures.complete tree nodes has declares short)
