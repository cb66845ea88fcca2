use Rattle.std.proofs.lemmas.Result.{err_from_is_err_and}
use Rattle.avro_schema.specs.Node.{node_at}
use Rattle.avro_schema.specs.SeenSchema.{schema_nodes}
use Rattle.avro_binary.proofs.EmptyReads.{empty_found, empty_refused}
use Rattle.avro_cursor.proofs.public.Ranges.{bytes-below}
use Rattle.avro_binary.proofs.reading.records.make_empty.Goals as goal

pub returns-in_err-pass_empty-in-Some-clause-passes : goal.returns-in_err-pass_empty-in-Some-clause-passes
returns-in_err-pass_empty-in-Some-clause-passes g c = λ known.
    let p = err_from_is_err_and c.from_residual-in_err-pass_empty-in-Some.result c.from_residual-in_err-pass_empty-in-Some.ensures.1 in
    let passed = c.in_err-pass_empty-in-Some.ensures in
    rw (p.1, p.2) (record {
      found = tt;
      none = tt;
      refused = empty_refused (schema_nodes c.args.schema.now) c.args.id.0 c.len-count.ensures.formed known c.args.cursor.now c.in_err-pass_empty-in-Some.field-0.0
          (bytes-below c.args.cursor.now.bytes passed.are_bytes) passed.in_range.0 passed.in_range.1 passed.refused;
    })

pub returns-in_ok-pass_empty-in-Some-clause-passes : goal.returns-in_ok-pass_empty-in-Some-clause-passes
returns-in_ok-pass_empty-in-Some-clause-passes g c = λ known.
    let nodes = schema_nodes c.args.schema.now in
    let passed = c.in_ok-pass_empty-in-Some.ensures in
    let stands = c.in_ok-out.ensures.stands nodes (node_at nodes c.args.id.0) known.datum known.fitting known.empty in record {
      found = (known.datum, empty_found nodes c.args.id.0 c.len-count.ensures.formed known c.args.cursor.now c.pass_empty.new.self passed.deep passed.counted, (c.in_ok-out.ensures.kept, rw c.in-Some.is at stands));
      none = λ e. absurd cc;
      refused = tt;
    }
