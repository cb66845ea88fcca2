use Rattle.std.proofs.Common.{◌≡◌, ◌≤◌, length, drop, map}
use Rattle.avro_least.specs.Tables.{all_of}
use Rattle.avro_least.specs.SeenLeast.{seen}
use Rattle.avro_least.specs.SeenTables.{erring_in, least_in}
use Rattle.avro_least.specs.Asked.{err_of_rows}
use Rattle.avro_least.specs.SeenAsk.{rows_of}
use Rattle.avro_least.proofs.datum.selecting.best_field.Given as goal

abbrev pub invariant-loop-i : goal.invariant-loop-i
invariant-loop-i l = (l.i ≤ length l.rows)
    × (seen l.all ≡ all_of l.tables.limit (least_in l.tables) (map (λ r. r.node) (rows_of (drop l.i l.rows))))
    × (seen l.best ≡ err_of_rows l.tables.limit (least_in l.tables) (erring_in l.tables) (rows_of (drop l.i l.rows)))

abbrev pub decreases-loop-i : goal.decreases-loop-i
decreases-loop-i l = l.i
