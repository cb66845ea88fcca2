use Rattle.std.proofs.Common.{◌∙◌, refl, sym, ap, arith}
use Rattle.avro_schema.specs.Node.{items_node, values_node}
use Rattle.avro_schema.specs.Seen.{entries_of, values_of}
use Rattle.avro_schema.specs.SeenSchema.{schema_nodes}
use Rattle.avro_schema.specs.Value.{keys_of}
use Rattle.avro_schema.proofs.public.DatumViews.{value_of-Bytes, value_of-Enum, value_of-Map, value_of-Str}
use Rattle.serde_json.specs.Data.{Data}
use Rattle.avro_display.specs.DisplayTree.{display_items, part_at}
use Rattle.avro_display.proofs.public.Ordering.{all_entries}
use Rattle.avro_display.specs.Table.{entry_tree}
use Rattle.avro_show.specs.Showing.{reader_node, shown, shown_node, writer_node}
use Rattle.avro_show.proofs.Made.{items_counted, keys_kept}
use Rattle.avro_show.proofs.Objects.{item_shown, items_shown}
use Rattle.avro_show.proofs.Taken.{array_taken, map_taken, record_taken}
use Rattle.avro_display.proofs.public.Opened.{count_entries, count_keys, value_of-Array, value_of-Record}
use Rattle.avro_show.proofs.Values.{count_values}
use Rattle.avro_show.proofs.opening.opened_targeted.Goals as goal

pub returns-in-Bytes-clause-opens : goal.returns-in-Bytes-clause-opens
returns-in-Bytes-clause-opens c = λ u d taken shows.
    let as_bytes = rw (c.in-Bytes.is, value_of-Bytes) at taken in
    c.opened_bytes.ensures.opens c.args.plan.now c.args.table.now c.args.id u d (rw (c.get.ensures.node, c.reader.ensures) as_bytes) shows

pub returns-in-Bytes-clause-levels : goal.returns-in-Bytes-clause-levels
returns-in-Bytes-clause-levels c = c.opened_bytes.ensures.levels c.args.plan.now _

pub returns-in-Str-clause-opens : goal.returns-in-Str-clause-opens
returns-in-Str-clause-opens c = λ u d taken shows.
    let as_text = rw (c.in-Str.is, value_of-Str) at taken in
    c.opened_string.ensures.opens c.args.plan.now c.args.table.now c.args.id u d (rw (c.get-in-Str.ensures.node, c.reader-in-Str.ensures) as_text) shows

pub returns-in-Str-clause-levels : goal.returns-in-Str-clause-levels
returns-in-Str-clause-levels c = c.opened_string.ensures.levels c.args.plan.now _

pub returns-in-Array-clause-opens : goal.returns-in-Array-clause-opens
returns-in-Array-clause-opens c = λ u d taken shows.
    let s = c.args.plan.now in
    let nodes = schema_nodes c.args.table.now in
    let n = part_at nodes (items_node (shown_node c.args.table.now c.args.id)) in
    let as_items = rw (c.in-Array.is, value_of-Array, ← c.deref.ensures.value) at taken in
    let all = array_taken s c.args.pair c.items.result u (values_of c.deref.result.now) c.items.ensures.of_writer c.items.ensures.of_reader as_items in
    let counted = items_counted (schema_nodes s.0) (schema_nodes s.1) (writer_node s c.items.result) (reader_node s c.items.result) 0 (values_of c.deref.result.now) all.0 all.1 in (
      display_items nodes n all.0,
      shows ∙ ap (shown c.args.table.now c.args.id) (sym all.2),
      (
        grind (arith, items_shown nodes n all.0, counted, count_values c.deref.result.now, c.deref.ensures.value, c.len.ensures),
        λ i low. (
          all.0,
          all.1,
          rw (c.items-in-Array.ensures, c.node.ensures)
              (item_shown nodes n all.0 i (grind (arith, low, counted, count_values c.deref.result.now, c.deref.ensures.value, c.len.ensures))),
        ),
      ),
    )

pub returns-in-Map-clause-opens : goal.returns-in-Map-clause-opens
returns-in-Map-clause-opens c = λ u d taken shows.
    let s = c.args.plan.now in
    let nodes = schema_nodes c.args.table.now in
    let n = part_at nodes (values_node (shown_node c.args.table.now c.args.id)) in
    let es = entries_of c.deref-in-Map.result.now in
    let as_entries = rw (c.in-Map.is, value_of-Map, ← c.deref-in-Map.ensures.value) at taken in
    let all = map_taken s c.args.pair c.values.result u es c.values.ensures.of_writer c.values.ensures.of_reader as_entries in
    let kept = keys_kept (schema_nodes s.0) (schema_nodes s.1) (writer_node s c.values.result) (reader_node s c.values.result) 0 es all.0 all.1 in (
      keys_of all.0,
      entry_tree nodes n all.0,
      shows ∙ ap (shown c.args.table.now c.args.id) (sym all.2) ∙ ap Data.object (sym (all_entries nodes n all.0)),
      (
        grind (arith, kept, count_keys es, count_entries c.deref-in-Map.result.now, c.deref-in-Map.ensures.value, c.len-in-Map.ensures),
        λ i k e. (all.0, all.1, e, rw (c.values-in-Map.ensures, c.node-in-Map.ensures) refl),
      ),
    )

pub returns-in-Map-clause-levels : goal.returns-in-Map-clause-levels
returns-in-Map-clause-levels c = grind (arith, value_of-Map, c.deref-in-Map.ensures.value)

pub returns-in-Record-clause-opens : goal.returns-in-Record-clause-opens
returns-in-Record-clause-opens c = λ u d taken shows.
    let as_record = rw (c.in-Record.is, value_of-Record) at taken in
    let all = record_taken c.args.plan.now c.args.pair u (values_of c.in-Record.values.items) as_record in
    c.opened_record.ensures.opens all.0 d all.1 (shows ∙ ap (shown c.args.table.now c.args.id) (sym all.2))

pub returns-in-Enum-clause-opens : goal.returns-in-Enum-clause-opens
returns-in-Enum-clause-opens c = λ u d taken shows.
    let as_symbol = rw (c.in-Enum.is, value_of-Enum) at taken in
    c.opened_symbol.ensures.opens c.args.plan.now c.args.table.now _ u d c.symbol.ensures as_symbol (rw c.node-in-Enum.ensures shows)

pub returns-in-Enum-clause-levels : goal.returns-in-Enum-clause-levels
returns-in-Enum-clause-levels c = c.opened_symbol.ensures.levels c.args.plan.now _
