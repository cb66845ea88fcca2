use Rattle.std.proofs.Common.{None, Ok, Err, subst}
use Rattle.avro_schema.specs.Node.{node_at}
use Rattle.avro_schema.specs.SeenSchema.{schema_nodes}
use Rattle.avro_cursor.specs.Seen.{read_fault}
use Rattle.avro_binary.specs.Reading.{WalksExactly}
use Rattle.avro_answer.proofs.DataFound.{fault_is_found, plain_is_found}
use Rattle.avro_answer.proofs.data_found.pass_plain.Goals as goal

pub returns-in-Ok-clause-found : goal.returns-in-Ok-clause-found
returns-in-Ok-clause-found c =
    let W = schema_nodes c.args.writer.now in
    let L = c.args.limits.now in
    let B = c.args.bytes.now in
    let walked = subst (λ n. WalksExactly W (node_at W n) L B (Ok c.in-Ok.len)) c.root.ensures.root c.in-Ok.ensures in
    let (v, in_bytes, encoded, within) = walked.found in
    (v, plain_is_found W c.one_found.ensures L B v c.in-Ok.len in_bytes encoded within)

pub returns-in-Err-clause-refused : goal.returns-in-Err-clause-refused
returns-in-Err-clause-refused c =
    let W = schema_nodes c.args.writer.now in
    let L = c.args.limits.now in
    let B = c.args.bytes.now in
    let walked = subst (λ n. WalksExactly W (node_at W n) L B (Err c.in-Err.error)) c.root.ensures.root c.in-Err.ensures in
    fault_is_found W c.one_found.ensures L B None (read_fault c.in-Err.error) walked.refused
