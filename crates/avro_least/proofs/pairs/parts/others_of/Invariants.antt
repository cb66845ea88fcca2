use Rattle.std.proofs.Common.{◌≡◌, ◌≤◌, ◌<◌, ◌+◌, ◌-◌, ℕ, length, drop, slice_get}
use Rattle.avro_schema.specs.Node.{field_ids}
use Rattle.avro_schema.specs.Seen.{seen_fields}
use Rattle.avro_least.specs.Tables.{all_of, together}
use Rattle.avro_least.specs.SeenLeast.{seen, given_entry, table_of}
use Rattle.avro_least.specs.inside.Parts.{least_of_others}
use Rattle.avro_least.proofs.pairs.parts.others_of.Given as goal

abbrev pub invariant-loop-i : goal.invariant-loop-i
invariant-loop-i l = record {
  one_each : length l.others.items ≡ length l.fields;
  done : (k : ℕ) → k < l.i → given_entry (slice_get l.others.items k) ≡ least_of_others l.limit (table_of l.table) (field_ids (seen_fields l.fields)) k;
  later : (k : ℕ) → l.i ≤ k → k < length l.fields → given_entry (slice_get l.others.items k) ≡ all_of l.limit (table_of l.table) (drop (k + 1) (field_ids (seen_fields l.fields)));
  before : (k : ℕ) → l.i ≤ k → k < length l.fields → least_of_others l.limit (table_of l.table) (field_ids (seen_fields l.fields)) k
      ≡ together l.limit (seen l.before) (least_of_others l.limit (table_of l.table) (drop l.i (field_ids (seen_fields l.fields))) (k - l.i));
}
