use Rattle.std.proofs.Common.{◌∙◌, ap, map, arith, is_none}
use Rattle.avro_schema.specs.SeenSchema.{schema_nodes}
use Rattle.avro_least.specs.SeenLeast.{table_of}
use Rattle.avro_least.proofs.public.DeadNodes.{none_greatest, past_end}
use Rattle.avro_explain.specs.Places.{marked}
use Rattle.avro_explain.proofs.MarkedNodes.{none_marked}
use Rattle.avro_explain.proofs.dying.dead_nodes.Goals as goal

pub returns : goal.returns
returns c =
    let es = c.in_ok-table.table.items in
    let ms = c.in_ok-marks.marks.items in
    none_greatest (schema_nodes c.args.writer.now) 0 (table_of es) (marked ms) c.in_ok-table.ensures.low c.in_ok-table.ensures.shown
    (λ p none. omega (arith, past_end es p none, c.in_ok-table.ensures.one_each))
    (none_marked es ms (c.in_ok-marks.ensures ∙ ap (map is_none) c.deref.ensures.value))
