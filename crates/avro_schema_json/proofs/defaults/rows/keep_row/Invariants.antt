use Rattle.std.proofs.Common.{◌≡◌, ℕ, ◌<◌, ◌≤◌, get_or}
use lib.Bits.{bit_and}
use Rattle.avro_schema_json.proofs.defaults.rows.keep_row.Given as goal

abbrev pub invariant-loop-i : goal.invariant-loop-i
invariant-loop-i l =
    (k : ℕ) → (k < l.i → get_or l.row.words k 0 ≡ bit_and (get_or l.initial.row.words k 0) (get_or l.other.words k 0))
    × (l.i ≤ k → get_or l.row.words k 0 ≡ get_or l.initial.row.words k 0)
