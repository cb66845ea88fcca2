use Rattle.std.proofs.Common.{◌≡◌, ◌≤◌, length, drop}
use Rattle.avro_schema.specs.Seen.{seen_fields}
use Rattle.avro_schema.specs.Node.{field_ids}
use Rattle.avro_least.specs.Tables.{all_of}
use Rattle.avro_least.specs.SeenLeast.{seen, table_of}
use Rattle.avro_least.proofs.nodes.least.all_of.Given as goal

abbrev pub invariant-loop-i : goal.invariant-loop-i
invariant-loop-i l = (l.i ≤ length l.fields) × (seen l.all ≡ all_of l.limit (table_of l.table) (field_ids (seen_fields (drop l.i l.fields))))

abbrev pub decreases-loop-i : goal.decreases-loop-i
decreases-loop-i l = l.i
