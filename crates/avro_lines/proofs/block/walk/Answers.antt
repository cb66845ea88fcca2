-- What is read by the plan is read for the reader.
use Rattle.std.proofs.Common.{◌≡◌, List, Option, Some, sym, subst, ◌∙◌}
use Rattle.std.specs.Prelude.{option_map}
use Rattle.std.specs.Option.{option_copied}
use Rattle.avro_schema.specs.Node.{Node}
use Rattle.avro_schema.specs.Seen.{values_from}
use Rattle.avro_schema.specs.SeenSchema.{schema_nodes}
use Rattle.avro_file.specs.BlockFails.{DataAreWhole, FileLimitValues}
use Rattle.avro_file.specs.DataRead.{reading}
use Rattle.avro_file.specs.declared.header.Header.{Header}
use Rattle.avro_lines.proofs.Plans.{planned-said}
use Rattle.avro_lines.proofs.block.walk.Goals as goal

pub returns-in-Ok-clause-found : goal.returns-in-Ok-clause-found
returns-in-Ok-clause-found c =
    let opened = c.args.opened.now in
    let block = c.args.block.now in
    let plan = c.in-Some.plan in
    let found = c.in-Ok.ensures.found in
    let us = values_from found.values in
    let planned : Some plan ≡ option_map (λ r. (opened.header.now.schema, r)) (option_copied opened.task.now.reader) = sym c.in-Some.is ∙ opened.planned in
    let whole = subst (λ (h : Header). DataAreWhole (reading opened.task.now.limits (schema_nodes plan.0) h.sync (Some (schema_nodes plan.1))) block.count block.body.items us) c.requires.same.0
    (subst (λ (l : FileLimitValues). DataAreWhole (reading l (schema_nodes plan.0) block.header.now.sync (Some (schema_nodes plan.1))) block.count block.body.items us) c.requires.same.1 found.whole) in
    (us, planned-said (λ (nodes : List Node) (reader : Option (List Node)). DataAreWhole (reading opened.task.now.limits nodes opened.header.now.sync reader) block.count block.body.items us) _ _ plan planned whole)
