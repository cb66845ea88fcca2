use Rattle.std.proofs.Common.{◌*◌, ◌+◌, take, map}
use Rattle.avro_schema.specs.Node.{field_ids}
use Rattle.avro_schema.specs.Seen.{seen_fields, value_of}
use Rattle.avro_schema.specs.SeenSchema.{schema_nodes}
use Rattle.avro_least.specs.SeenLeast.{table_of}
use Rattle.avro_least.specs.inside.Built.{BuildsAll}
use Rattle.avro_least.proofs.datum.least.+build.Given as goal

abbrev pub decreases-build : goal.decreases-build
decreases-build l = 2 * l.left

abbrev pub decreases-build_branch : goal.decreases-build_branch
decreases-build_branch l = 2 * l.left + 1

abbrev pub decreases-build_record : goal.decreases-build_record
decreases-build_record l = 2 * l.left + 1

abbrev pub invariant-build_record-loop-i : goal.invariant-build_record-loop-i
invariant-build_record-loop-i l = BuildsAll (schema_nodes l.schema) (table_of l.table) l.left (field_ids (seen_fields (take l.i l.fields))) (map value_of l.values.items)
