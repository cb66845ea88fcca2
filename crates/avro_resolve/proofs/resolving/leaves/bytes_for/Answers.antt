use Rattle.avro_schema.specs.Node.{node_at}
use Rattle.avro_schema.specs.SeenSchema.{schema_nodes}
use Rattle.avro_resolve.proofs.TextRead.{text_taken, text_bad}
use Rattle.avro_resolve.proofs.resolving.leaves.bytes_for.Goals as goal

pub returns-in-Ok : goal.returns-in-Ok
returns-in-Ok c =
    text_taken c.args.content.now c.in-Ok.text.now (node_at (schema_nodes c.args.reader.now) c.args.q.0) c.if-not-is_text.ensures c.in-Ok.ensures.text.0 c.in-Ok.ensures.text.1

pub returns-in-Err : goal.returns-in-Err
returns-in-Err c = text_bad c.args.content.now (node_at (schema_nodes c.args.reader.now) c.args.q.0) c.if-not-is_text.ensures c.in-Err.ensures.fault.0
