use Rattle.std.proofs.Common.{ℕ, List, ◌*◌, ◌+◌, ◌-◌, cond, take, map, is_some}
use Rattle.avro_schema.specs.Node.{Node as SeenNode, node_at, branches_of}
use Rattle.avro_schema.specs.Seen.{value_of}
use Rattle.avro_schema.specs.SeenSchema.{schema_nodes}
use Rattle.avro_least.specs.SeenAsk.{rows_of}
use Rattle.avro_least.specs.BuiltErrors.{BuildsRows}
use Rattle.avro_least.specs.SeenTables.{erring_in, least_in}
use Rattle.avro_least.proofs.datum.failing.+build_error.Given as goal

-- less of a union than of other nodes, so that the pair of a union's branch comes after the union's
abbrev pub behind : List SeenNode → ℕ → ℕ
behind reader r = 2 - cond (is_some (branches_of (node_at reader r))) 0 2

abbrev pub decreases-build_error : goal.decreases-build_error
decreases-build_error l = 8 * l.left + behind (schema_nodes l.tables.now.reader.now) l.r.0 + 1

abbrev pub decreases-build_asked : goal.decreases-build_asked
decreases-build_asked l = 8 * l.left + behind (schema_nodes l.tables.now.reader.now) l.pair.now.r.0

abbrev pub decreases-build_branches : goal.decreases-build_branches
decreases-build_branches l = 8 * l.left + 4

abbrev pub decreases-build_rows : goal.decreases-build_rows
decreases-build_rows l = 8 * l.left + 5

abbrev pub decreases-build_row : goal.decreases-build_row
decreases-build_row l = 8 * l.left + 4

abbrev pub invariant-build_rows-loop-i : goal.invariant-build_rows-loop-i
invariant-build_rows-loop-i l = BuildsRows (schema_nodes l.tables.writer.now) (schema_nodes l.tables.reader.now) l.tables.limit (least_in l.tables)
    (erring_in l.tables) l.left l.k 0 (rows_of (take l.i l.rows)) (map value_of l.values.items)
