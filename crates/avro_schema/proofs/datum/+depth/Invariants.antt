use Rattle.std.proofs.Common.{◌≡◌, ◌<◌, ◌^◌, ◌-◌, min, max, drop}
use Rattle.avro_schema.specs.Seen.{values_of, entries_of}
use Rattle.avro_schema.specs.Value.{values_depth, entries_depth}
use Rattle.avro_schema.proofs.datum.+depth.Given as goal

abbrev pub invariant-depth_of_entries-loop-entry : goal.invariant-depth_of_entries-loop-entry
invariant-depth_of_entries-loop-entry l =
    (l.deepest < 2 ^ 64) × (min (max l.deepest (entries_depth (entries_of (drop l.entry-index l.entries)))) (2 ^ 64 - 1) ≡ min (entries_depth (entries_of l.entries)) (2 ^ 64 - 1))

abbrev pub invariant-depth_of_items-loop-item : goal.invariant-depth_of_items-loop-item
invariant-depth_of_items-loop-item l =
    (l.deepest < 2 ^ 64) × (min (max l.deepest (values_depth (values_of (drop l.item-index l.items)))) (2 ^ 64 - 1) ≡ min (values_depth (values_of l.items)) (2 ^ 64 - 1))
