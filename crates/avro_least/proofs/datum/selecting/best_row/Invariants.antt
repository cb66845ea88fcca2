use Rattle.std.proofs.Common.{◌≡◌, ◌≤◌, ◌<◌, ℕ, drop, length, map}
use Rattle.avro_least.specs.Tables.{all_of}
use Rattle.avro_least.specs.SeenLeast.{seen}
use Rattle.avro_least.specs.SeenAsk.{rows_of}
use Rattle.avro_least.specs.BuiltErrors.{total_from}
use Rattle.avro_least.specs.SeenTables.{erring_in, least_in}
use Rattle.avro_least.proofs.datum.selecting.best_row.Given as goal

abbrev pub invariant-loop-i : goal.invariant-loop-i
invariant-loop-i l = (l.i ≤ length l.rows)
    × (seen l.behind ≡ all_of l.tables.limit (least_in l.tables) (map (λ r. r.node) (rows_of (drop l.i l.rows))))
    × ((k : ℕ) → l.i ≤ k → k < length l.rows → total_from l.tables.limit (least_in l.tables) (erring_in l.tables) k 0 (rows_of l.rows) ≡ seen l.best
    → (l.chosen < length l.rows) × (total_from l.tables.limit (least_in l.tables) (erring_in l.tables) l.chosen 0 (rows_of l.rows) ≡ seen l.best))

abbrev pub decreases-loop-i : goal.decreases-loop-i
decreases-loop-i l = l.i
