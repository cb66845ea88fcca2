use Rattle.std.proofs.Common.{◌≡◌, ◌≤◌, ◌<◌, ◌+◌, ℕ, length, drop, slice_get}
use Rattle.avro_schema.specs.Node.{field_ids}
use Rattle.avro_schema.specs.Seen.{seen_fields}
use Rattle.avro_least.specs.Tables.{all_of}
use Rattle.avro_least.specs.SeenLeast.{seen, given_entry, table_of}
use Rattle.avro_least.proofs.pairs.parts.behind.Given as goal

abbrev pub invariant-loop-i : goal.invariant-loop-i
invariant-loop-i l = record {
  within : l.i ≤ length l.fields;
  one_each : length l.behind.items ≡ length l.fields;
  all : seen l.all ≡ all_of l.limit (table_of l.table) (drop l.i (field_ids (seen_fields l.fields)));
  each : (k : ℕ) → l.i ≤ k → k < length l.fields → given_entry (slice_get l.behind.items k) ≡ all_of l.limit (table_of l.table) (drop (k + 1) (field_ids (seen_fields l.fields)));
}

abbrev pub decreases-loop-i : goal.decreases-loop-i
decreases-loop-i l = l.i
