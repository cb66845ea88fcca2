use Rattle.std.proofs.Common.{◌≡◌, ◌++◌, map, drop}
use Rattle.avro_schema.specs.Seen.{value_of, pair_of}
use Rattle.avro_schema.proofs.datum.+copy.Given as goal

abbrev pub invariant-copy_of_entries-loop-entry : goal.invariant-copy_of_entries-loop-entry
invariant-copy_of_entries-loop-entry l = map pair_of l.copy.items ++ map pair_of (drop l.entry-index l.entries) ≡ map pair_of l.entries

abbrev pub invariant-copy_of_items-loop-item : goal.invariant-copy_of_items-loop-item
invariant-copy_of_items-loop-item l = map value_of l.copy.items ++ map value_of (drop l.item-index l.items) ≡ map value_of l.items
