use Rattle.std.proofs.Common.{◌≡◌, ◌++◌, drop, map, is_none}
use Rattle.avro_explain.proofs.dying.marks_of.Given as goal

abbrev pub invariant-loop-entry : goal.invariant-loop-entry
invariant-loop-entry l = map is_none l.table ≡ l.marks.items ++ map is_none (drop l.entry-index l.table)
