use Rattle.std.proofs.Common.{◌≡◌, ◌++◌, drop}
use Rattle.avro_schema.specs.Seen.{ids_of}
use Rattle.avro_schema.proofs.branches.are_unique_ids.Given as goal

abbrev pub invariant-loop-branch : goal.invariant-loop-branch
invariant-loop-branch l = l.ids.items ++ ids_of (drop l.branch-index l.branches) ≡ ids_of l.branches
