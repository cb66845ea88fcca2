use Rattle.std.proofs.Common.{◌≡◌, ◌≤◌, length, drop}
use Rattle.avro_schema.specs.Seen.{ids_of}
use Rattle.avro_least.specs.Tables.{best_of}
use Rattle.avro_least.specs.SeenLeast.{seen, table_of}
use Rattle.avro_least.proofs.nodes.least.best_of.Given as goal

abbrev pub invariant-loop-i : goal.invariant-loop-i
invariant-loop-i l = (l.i ≤ length l.ids) × (seen l.best ≡ best_of (table_of l.table) (ids_of (drop l.i l.ids)))

abbrev pub decreases-loop-i : goal.decreases-loop-i
decreases-loop-i l = l.i
