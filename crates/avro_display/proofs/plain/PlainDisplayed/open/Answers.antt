use Rattle.std.proofs.Common.{arith}
use Rattle.avro_schema.specs.Seen.{entries_of, values_of}
use Rattle.avro_schema.specs.SeenSchema.{schema_nodes}
use Rattle.avro_display.proofs.public.Opened.{count_entries}
use Rattle.avro_display.proofs.Plains.{count_is, opened_entries, opened_items, seen_values}
use Rattle.avro_display.proofs.plain.PlainDisplayed.open.Goals as goal

pub returns-in-Array-clause-opens : goal.returns-in-Array-clause-opens
returns-in-Array-clause-opens c = λ d shown.
    opened_items (schema_nodes c.args.self.now.table.now) c.args.part (values_of c.in-Array.items.items) c.len.result d (grind (arith, seen_values)) (grind (arith, count_is)) shown

pub returns-in-Map-clause-opens : goal.returns-in-Map-clause-opens
returns-in-Map-clause-opens c = λ d shown.
    opened_entries (schema_nodes c.args.self.now.table.now) c.args.part (entries_of c.in-Map.entries.items) c.len-in-Map.result d (grind (arith, seen_values)) (grind (arith, count_entries)) shown

pub returns-in-Union-clause-opens : goal.returns-in-Union-clause-opens
returns-in-Union-clause-opens c = λ d shown. c.opened_branch.ensures.opens d (grind (arith, seen_values))

pub returns-in-Record-clause-opens : goal.returns-in-Record-clause-opens
returns-in-Record-clause-opens c = λ d shown.
    c.opened_record.ensures.opens (values_of c.in-Record.values.items) d (grind (arith, seen_values)) (grind (arith, count_is)) (grind (arith, seen_values))
