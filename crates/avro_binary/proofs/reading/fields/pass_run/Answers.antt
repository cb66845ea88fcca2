use Rattle.std.proofs.lemmas.Result.{err_from_is_err_and}
use Rattle.std.proofs.Common.{length, drop}
use Rattle.avro_schema.specs.Node.{field_ids}
use Rattle.avro_schema.specs.SeenSchema.{schema_nodes}
use Rattle.avro_binary.proofs.EmptyRuns.{run_found, run_refused}
use Rattle.avro_cursor.proofs.public.Ranges.{bytes-below}
use Rattle.avro_binary.proofs.reading.fields.pass_run.Goals as goal

pub returns-in_err-pass_empty-clause-refused : goal.returns-in_err-pass_empty-clause-refused
returns-in_err-pass_empty-clause-refused g c = λ ids starts.
    let p = err_from_is_err_and c.from_residual.result c.from_residual.ensures.1 in
    let passed = c.in_err-pass_empty.ensures in
    rw (p.1, p.2) (run_refused (schema_nodes c.args.schema.now) ids c.args.run c.args.cursor.now c.in_err-pass_empty.field-0.0 c.len-count.ensures.formed starts
    (bytes-below c.args.cursor.now.bytes passed.are_bytes) passed.in_range.0 passed.in_range.1 passed.refused)

pub returns-then-empty_fields-clause-found : goal.returns-then-empty_fields-clause-found
returns-then-empty_fields-clause-found g c = λ fs at vs starts stand.
    let nodes = schema_nodes c.args.schema.now in
    let passed = c.in_ok-pass_empty.ensures in
    let found = run_found nodes (drop (length vs) (field_ids fs)) c.args.run c.args.cursor.now c.pass_empty.new.self starts passed.deep passed.counted in
    (found.0, found.1, found.2, c.empty_fields.ensures.added nodes fs at vs found.0 c.if-empty_fields.true found.1 found.2.empty found.2.fitting stand)
