use Rattle.std.proofs.lemmas.Result.{err_from_is_err_and}
use Rattle.avro_schema.specs.Node.{node_at}
use Rattle.avro_schema.specs.SeenSchema.{schema_nodes}
use Rattle.avro_binary.proofs.ExactReads.{built, build_refused, walked, walk_refused}
use Rattle.avro_binary.proofs.walking.walk.Goals as goal

pub returns : goal.returns
returns c =
    let nodes = schema_nodes c.args.schema.now in
    walked nodes (node_at nodes c.args.node.0) c.args.limits.now c.args.bytes.now tt c.offset.result
    (built nodes c.len-count.ensures.formed c.args.node.0 c.args.limits.now c.args.bytes.now c.new-cursor.result c.read_at.new.cursor c.new-cursor.ensures
    tt c.offset.result c.offset.ensures c.in_ok-read_at.ensures.reads)

pub returns-in_err-read_at : goal.returns-in_err-read_at
returns-in_err-read_at c =
    let nodes = schema_nodes c.args.schema.now in
    let p = err_from_is_err_and c.from_residual.result c.from_residual.ensures.1 in
    rw (p.1, p.2) (walk_refused nodes (node_at nodes c.args.node.0) c.args.limits.now c.args.bytes.now c.in_err-read_at.field-0.0
    (build_refused nodes c.len-count.ensures.formed c.args.node.0 c.args.limits.now c.args.bytes.now c.new-cursor.result c.read_at.new.cursor c.new-cursor.ensures
    c.in_err-read_at.field-0.0 c.in_err-read_at.ensures.reads))
