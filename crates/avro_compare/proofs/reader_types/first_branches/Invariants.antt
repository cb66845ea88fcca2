use Rattle.std.proofs.Common.{◌≡◌, ◌≤◌, length}
use Rattle.std.specs.BTreeMap.{get}
use Rattle.avro_schema.specs.SeenSchema.{schema_nodes}
use Rattle.avro_compare.specs.inside.TypeNames.{NameKey, key_cmp, passes, is_own}
use Rattle.avro_compare.proofs.PlainBranches.{branch_from}
use Rattle.avro_compare.proofs.reader_types.first_branches.Given as goal

abbrev pub invariant-loop-left : goal.invariant-loop-left
invariant-loop-left l = (l.left ≤ length l.branches)
    × ((key : NameKey) → get key_cmp l.firsts key ≡ branch_from (passes (schema_nodes l.reader) (is_own l.texts key.0 key.1)) l.branches l.left)

abbrev pub decreases-loop-left : goal.decreases-loop-left
decreases-loop-left l = l.left
