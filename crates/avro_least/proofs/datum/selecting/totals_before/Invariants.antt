use Rattle.std.proofs.Common.{◌≡◌, ◌≤◌, ◌<◌, ℕ, drop, length, slice_get}
use Rattle.avro_least.specs.Tables.{together}
use Rattle.avro_least.specs.SeenLeast.{seen, given_entry}
use Rattle.avro_least.specs.SeenAsk.{rows_of}
use Rattle.avro_least.specs.BuiltErrors.{total_from}
use Rattle.avro_least.specs.SeenTables.{erring_in, least_in}
use Rattle.avro_least.proofs.datum.selecting.totals_before.Given as goal

abbrev pub invariant-loop-i : goal.invariant-loop-i
invariant-loop-i l = (length l.totals.items ≡ l.i)
    × ((k : ℕ) → l.i ≤ k → total_from l.tables.limit (least_in l.tables) (erring_in l.tables) k 0 (rows_of l.rows)
    ≡ together l.tables.limit (seen l.all) (total_from l.tables.limit (least_in l.tables) (erring_in l.tables) k l.i (rows_of (drop l.i l.rows))))
    × ((i : ℕ) → i < l.i → (k : ℕ) → i ≤ k → total_from l.tables.limit (least_in l.tables) (erring_in l.tables) k 0 (rows_of l.rows)
    ≡ together l.tables.limit (given_entry (slice_get l.totals.items i)) (total_from l.tables.limit (least_in l.tables) (erring_in l.tables) k i (rows_of (drop i l.rows))))
