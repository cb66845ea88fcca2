use Rattle.std.proofs.lemmas.Result.{err_from_is_err_and}
use Rattle.avro_schema.specs.SeenSchema.{schema_nodes}
use Rattle.avro_binary.proofs.ExactReads.{built, build_refused}
use Rattle.avro_binary.proofs.read.read_made.Goals as goal

pub returns-clause-reads : goal.returns-clause-reads
returns-clause-reads g c =
    built (schema_nodes c.args.schema.now) c.len-count.ensures.formed c.args.node.0 c.args.limits.now c.args.bytes.now c.new-cursor.result
    c.read_at.new.cursor c.new-cursor.ensures c.in_ok-made.made c.offset.result c.offset.ensures c.in_ok-made.ensures.reads

pub returns-in_err-made-clause-reads : goal.returns-in_err-made-clause-reads
returns-in_err-made-clause-reads g c =
    let p = err_from_is_err_and c.from_residual.result c.from_residual.ensures.1 in
    rw (p.1, p.2) (build_refused (schema_nodes c.args.schema.now) c.len-count.ensures.formed c.args.node.0 c.args.limits.now c.args.bytes.now c.new-cursor.result
    c.read_at.new.cursor c.new-cursor.ensures c.in_err-made.field-0.0 c.in_err-made.ensures.reads)
