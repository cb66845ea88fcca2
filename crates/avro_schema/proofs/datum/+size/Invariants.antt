use Rattle.std.proofs.Common.{◌≡◌, ◌<◌, ◌^◌, ◌-◌, min, ◌+◌, drop}
use Rattle.avro_schema.specs.Seen.{values_of, entries_of}
use Rattle.avro_schema.specs.Value.{values_size, entries_size}
use Rattle.avro_schema.proofs.datum.+size.Given as goal

abbrev pub invariant-size_of_entries-loop-entry : goal.invariant-size_of_entries-loop-entry
invariant-size_of_entries-loop-entry l =
    (l.all < 2 ^ 64) × (min (l.all + entries_size (entries_of (drop l.entry-index l.entries))) (2 ^ 64 - 1) ≡ min (entries_size (entries_of l.entries)) (2 ^ 64 - 1))

abbrev pub invariant-size_of_items-loop-item : goal.invariant-size_of_items-loop-item
invariant-size_of_items-loop-item l =
    (l.all < 2 ^ 64) × (min (l.all + values_size (values_of (drop l.item-index l.items))) (2 ^ 64 - 1) ≡ min (values_size (values_of l.items)) (2 ^ 64 - 1))
