use Rattle.std.proofs.Common.{arith}
use Rattle.avro_schema.specs.SeenSchema.{schema_nodes}
use Rattle.avro_display.proofs.Plains.{seen_values}
use Rattle.avro_display.proofs.plain.PlainDisplayed.entry.Goals as goal

pub returns-in-Map-clause-shows : goal.returns-in-Map-clause-shows
returns-in-Map-clause-shows c = λ k d shown. c.entry_of.ensures.shows (schema_nodes c.args.self.now.table.now) k d (grind (arith, seen_values)) (grind (arith, seen_values))

pub returns-in-Record-clause-shows : goal.returns-in-Record-clause-shows
returns-in-Record-clause-shows c = λ k d shown. c.value_of_field.ensures.shows (schema_nodes c.args.self.now.table.now) k d (grind (arith, seen_values)) (grind (arith, seen_values)) (grind (arith, seen_values))
