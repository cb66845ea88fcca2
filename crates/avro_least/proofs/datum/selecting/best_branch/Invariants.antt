use Rattle.std.proofs.Common.{◌≡◌, ◌≤◌, length, drop}
use Rattle.avro_schema.specs.Seen.{ids_of}
use Rattle.avro_least.specs.Tables.{best_of}
use Rattle.avro_least.specs.SeenLeast.{seen}
use Rattle.avro_least.specs.SeenTables.{erring_in}
use Rattle.avro_least.proofs.datum.selecting.best_branch.Given as goal

abbrev pub invariant-loop-i : goal.invariant-loop-i
invariant-loop-i l = (l.i ≤ length l.ids) × (seen l.best ≡ best_of (λ p. erring_in l.tables p l.r.0) (ids_of (drop l.i l.ids)))

abbrev pub decreases-loop-i : goal.decreases-loop-i
decreases-loop-i l = l.i
