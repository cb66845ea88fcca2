use Rattle.std.proofs.Common.{None, subst}
use Rattle.avro_schema.specs.Node.{root_of}
use Rattle.avro_schema.specs.SeenSchema.{schema_nodes}
use Rattle.avro_schema.specs.declared.schema.Schema.{Schema}
use Rattle.avro_cursor.specs.Seen.{read_fault}
use Rattle.avro_display.specs.DisplayTree.{display_text}
use Rattle.avro_answer.proofs.DataFound.{OnlyFound, fault_is_found, plain_is_displayed}
use Rattle.avro_answer.proofs.data_found.display_plain.Goals as goal

pub returns-in-Ok-clause-shown : goal.returns-in-Ok-clause-shown
returns-in-Ok-clause-shown c =
    let W = schema_nodes c.args.table.now in
    let all = subst (λ (s : Schema). OnlyFound (schema_nodes s)) c.schema.ensures c.one_found.ensures in
    let (v, in_bytes, encoded, within, stands) = c.in-Ok.ensures.found in
    (display_text W (root_of W) v, plain_is_displayed W all c.args.limits.now c.args.bytes.now v c.in-Ok.len in_bytes encoded within, stands)

pub returns-in-Err-clause-refused : goal.returns-in-Err-clause-refused
returns-in-Err-clause-refused c =
    let W = schema_nodes c.args.table.now in
    let all = subst (λ (s : Schema). OnlyFound (schema_nodes s)) c.schema.ensures c.one_found.ensures in
    fault_is_found W all c.args.limits.now c.args.bytes.now None (read_fault c.in-Err.error) c.in-Err.ensures.refused
