use Rattle.std.specs.Prelude.{option_map, refl}
use Rattle.avro_schema.specs.SeenSchema.{schema_nodes}
use Rattle.avro_answer.specs.DataRead.{fault_found}
use Rattle.avro_answer.specs.declared.form.Form.{Form}
use Rattle.avro_answer.proofs.DataLines.{datum_line, fault_put}
use Rattle.avro_answer.proofs.DataPuts.{surely}
use Rattle.avro_answer.proofs.public.Skipped.{some_behind, told_behind, too_few_for}
use Rattle.avro_answer.proofs.many_data.append_line.Goals as goal

pub returns-in-Ok-append : goal.returns-in-Ok-append
returns-in-Ok-append c =
    let W = schema_nodes c.args.plan.now.0 in
    let R = option_map schema_nodes c.args.plan.now.1 in
    let L = c.args.limits.now in
    let B = c.args.bytes.now in
    let (line, told, put) = c.in-Ok-append.ensures.read in
    (line, datum_line W R L c.args.skip B line 0 refl (told_behind W R L c.args.skip B c.in-Ok.ensures.within c.in-Ok.data.now c.in-Ok.ensures.behind Form.Json line told), put)

pub returns-in-Err-append : goal.returns-in-Err-append
returns-in-Err-append c =
    let W = schema_nodes c.args.plan.now.0 in
    let R = option_map schema_nodes c.args.plan.now.1 in
    let L = c.args.limits.now in
    let B = c.args.bytes.now in
    fault_put W R L c.args.skip B c.in-Err-append.error
    (some_behind W R L c.args.skip B c.in-Ok.ensures.within c.in-Ok.data.now c.in-Ok.ensures.behind (fault_found c.in-Err-append.error) c.in-Err-append.ensures.refused)
    c.args.text.now.items c.append.new.text.items c.append_fault_line.new.text.items c.in-Err-append.ensures.unchanged c.append_fault_line.result c.append_fault_line.ensures

pub returns-in-Err : goal.returns-in-Err
returns-in-Err c =
    let W = schema_nodes c.args.plan.now.0 in
    let R = option_map schema_nodes c.args.plan.now.1 in
    let L = c.args.limits.now in
    let B = c.args.bytes.now in
    let text = c.args.text.now.items in
    fault_put W R L c.args.skip B c.in-Err.error (too_few_for W R L c.args.skip B c.in-Err.ensures.few c.in-Err.error c.in-Err.ensures.end)
    text text c.append_fault_line-in-Err.new.text.items (surely (fault_found c.in-Err.error) refl) c.append_fault_line-in-Err.result c.append_fault_line-in-Err.ensures
