use Rattle.std.proofs.Common.{arith}
use Rattle.avro_schema.specs.SeenSchema.{schema_nodes}
use Rattle.avro_display.proofs.Plains.{seen_values}
use Rattle.avro_display.proofs.plain.PlainDisplayed.item.Goals as goal

pub returns-in-Array-clause-shows : goal.returns-in-Array-clause-shows
returns-in-Array-clause-shows c = λ d shown. c.item_of.ensures.shows (schema_nodes c.args.self.now.table.now) d (grind (arith, seen_values)) (grind (arith, seen_values))
