use Rattle.std.proofs.Common.{◌≡◌, ◌≤◌, suc, length}
use Rattle.avro_schema.specs.Seen.{seen_fields}
use Rattle.avro_compare.proofs.FieldsNoted.{AreForFrom}
use Rattle.avro_compare.proofs.comparing.find_fields.Given as goal

abbrev pub invariant-loop-left : goal.invariant-loop-left
invariant-loop-left l = (l.left ≤ length l.reads) × AreForFrom (seen_fields l.writes) l.reads l.left l.found.items × (length l.found.items ≡ suc (length (seen_fields l.writes)))

abbrev pub decreases-loop-left : goal.decreases-loop-left
decreases-loop-left l = l.left
