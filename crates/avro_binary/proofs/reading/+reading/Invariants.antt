use Rattle.std.proofs.Common.{◌≡◌, ◌++◌, ◌+◌, ◌-◌, ◌*◌, List, ℕ, [], take, length, bytes_eq, true}
use Rattle.avro_schema.specs.Value.{Value}
use Rattle.avro_schema.specs.Distinct.{are_distinct}
use Rattle.avro_schema.specs.Fits.{LimitValues}
use Rattle.avro_schema.specs.Node.{node_at, field_ids}
use Rattle.avro_schema.specs.Seen.{seen_fields}
use Rattle.avro_schema.specs.SeenSchema.{schema_nodes}
use Rattle.avro_binary.specs.CursorReads.{ValuesRun, EntriesRun, FindsRun}
use Rattle.avro_cursor.specs.KeySet.{key_set}
use Rattle.avro_binary.specs.inside.PassesRun.{TellOfRuns}
use Rattle.avro_binary.proofs.NodeSteps.{ArrayDone, MapDone, FieldsDone}
use Rattle.avro_binary.proofs.reading.+reading.Given as goal

abbrev pub decreases-read_at : goal.decreases-read_at
decreases-read_at g l = 7 * l.cursor.now.depth + 3

abbrev pub decreases-read_array : goal.decreases-read_array
decreases-read_array g l = 7 * l.cursor.now.depth

abbrev pub decreases-maps::read_map : goal.decreases-maps::read_map
decreases-maps::read_map g l = 7 * l.cursor.now.depth

abbrev pub decreases-read_union : goal.decreases-read_union
decreases-read_union g l = 7 * l.cursor.now.depth

abbrev pub decreases-records::read_record : goal.decreases-records::read_record
decreases-records::read_record g l = 7 * l.cursor.now.depth + 1

abbrev pub decreases-enter_record : goal.decreases-enter_record
decreases-enter_record g l = 7 * l.cursor.now.depth

abbrev pub decreases-read_item_blocks : goal.decreases-read_item_blocks
decreases-read_item_blocks g l = 7 * l.cursor.now.depth + 6

abbrev pub decreases-maps::read_entry_blocks : goal.decreases-maps::read_entry_blocks
decreases-maps::read_entry_blocks g l = 7 * l.cursor.now.depth + 6

abbrev pub decreases-read_branch : goal.decreases-read_branch
decreases-read_branch g l = 7 * l.cursor.now.depth + 6

abbrev pub decreases-fields::read_fields : goal.decreases-fields::read_fields
decreases-fields::read_fields g l = 7 * l.cursor.now.depth + 5

abbrev pub decreases-fields::read_parts : goal.decreases-fields::read_parts
decreases-fields::read_parts g l = 7 * l.cursor.now.depth + 6

abbrev pub decreases-fields::read_runs : goal.decreases-fields::read_runs
decreases-fields::read_runs g l = 7 * l.cursor.now.depth + 5

abbrev pub decreases-fields::read_apart : goal.decreases-fields::read_apart
decreases-fields::read_apart g l = 7 * l.cursor.now.depth + 4

abbrev pub decreases-read_items : goal.decreases-read_items
decreases-read_items g l = 7 * l.cursor.now.depth + 5

abbrev pub decreases-maps::read_entries : goal.decreases-maps::read_entries
decreases-maps::read_entries g l = 7 * l.cursor.now.depth + 5

-- the blocks so far, which are of some items
abbrev pub invariant-read_item_blocks-loop-items : goal.invariant-read_item_blocks-loop-items
invariant-read_item_blocks-loop-items g l = (xs : List Value) × ArrayDone (schema_nodes l.schema) l.id.0 l.initial.cursor l.cursor [] xs
    × g.M.Make.keeps l.fn.maker l.maker × g.M.Make.items_stand_for l.maker (schema_nodes l.schema) l.id.0 l.fn.at l.items xs
    × ((front : List ℕ) → g.M.Make.begins l.fn.maker front → g.M.Make.begins l.maker front)

abbrev pub decreases-read_item_blocks-loop-items : goal.decreases-read_item_blocks-loop-items
decreases-read_item_blocks-loop-items g l = l.cursor.nodes

abbrev pub invariant-maps::read_entry_blocks-loop-entries : goal.invariant-maps::read_entry_blocks-loop-entries
invariant-maps::read_entry_blocks-loop-entries g l =
    (xs : List (List ℕ × Value)) × (keys : List (List ℕ)) × (l.keys ≡ key_set keys) × MapDone (schema_nodes l.schema) l.id.0 l.initial.cursor l.cursor keys xs
    × g.M.Make.keeps l.fn.maker l.maker × g.M.Make.entries_stand_for l.maker (schema_nodes l.schema) l.id.0 l.fn.at l.entries xs
    × ((front : List ℕ) → g.M.Make.begins l.fn.maker front → g.M.Make.begins l.maker front)

abbrev pub decreases-maps::read_entry_blocks-loop-entries : goal.decreases-maps::read_entry_blocks-loop-entries
decreases-maps::read_entry_blocks-loop-entries g l = l.cursor.nodes

-- the items that are done
abbrev pub invariant-read_items-loop-done : goal.invariant-read_items-loop-done
invariant-read_items-loop-done g l =
    (l.cursor.depth ≡ l.initial.cursor.depth) × ((limits : LimitValues) → limits.depth ≡ l.initial.cursor.depth → limits.blob ≡ l.initial.cursor.blob
    → (xs : List Value) × (length xs ≡ l.done) × FindsRun (ValuesRun (schema_nodes l.schema) limits (node_at (schema_nodes l.schema) l.id.0)) l.initial.cursor l.cursor [] [] xs
    × g.M.Make.keeps l.initial.maker l.maker
    × ((at : _) (us : List Value) → g.M.Make.items_stand_for l.initial.maker (schema_nodes l.schema) l.id.0 at l.initial.items us → g.M.Make.items_stand_for l.maker (schema_nodes l.schema) l.id.0 at l.items (us ++ xs)))
    × ((front : List ℕ) → g.M.Make.begins l.initial.maker front → g.M.Make.begins l.maker front)

-- the entries that are done
abbrev pub invariant-maps::read_entries-loop-done : goal.invariant-maps::read_entries-loop-done
invariant-maps::read_entries-loop-done g l =
    (l.cursor.depth ≡ l.initial.cursor.depth) × ((limits : LimitValues) (before : List (List ℕ)) → limits.depth ≡ l.initial.cursor.depth → limits.blob ≡ l.initial.cursor.blob
    → l.initial.keys ≡ key_set before → are_distinct bytes_eq before ≡ true
    → (xs : List (List ℕ × Value)) × (keys : List (List ℕ)) × (length xs ≡ l._done) × (l.keys ≡ key_set keys)
    × FindsRun (EntriesRun (schema_nodes l.schema) limits (node_at (schema_nodes l.schema) l.id.0)) l.initial.cursor l.cursor before keys xs
    × g.M.Make.keeps l.initial.maker l.maker
    × ((at : _) (fs : List (List ℕ × Value)) → g.M.Make.entries_stand_for l.initial.maker (schema_nodes l.schema) l.id.0 at l.initial.entries fs → g.M.Make.entries_stand_for l.maker (schema_nodes l.schema) l.id.0 at l.entries (fs ++ xs)))
    × ((front : List ℕ) → g.M.Make.begins l.initial.maker front → g.M.Make.begins l.maker front)

-- the values of the fields before one
abbrev pub invariant-fields::read_fields-loop-field : goal.invariant-fields::read_fields-loop-field
invariant-fields::read_fields-loop-field g l =
    (xs : List Value) × FieldsDone (schema_nodes l.schema) (take l.field-index (field_ids (seen_fields l.fields))) l.initial.cursor l.cursor xs × (length xs ≡ l.field-index)
    × g.M.Make.keeps l.fn.maker l.maker × g.M.Make.fields_stand_for l.maker (schema_nodes l.schema) (seen_fields l.fields) l.fn.at l.values xs
    × ((front : List ℕ) → g.M.Make.begins l.fn.maker front → g.M.Make.begins l.maker front)

-- the values of the fields before an index, where the runs tell of the fields
abbrev pub invariant-fields::read_runs-loop-index : goal.invariant-fields::read_runs-loop-index
invariant-fields::read_runs-loop-index g l = (l.cursor.depth ≡ l.initial.cursor.depth) × g.M.Make.keeps l.fn.maker l.maker
    × (TellOfRuns (schema_nodes l.schema) (field_ids (seen_fields l.fields)) l.runs
    → (xs : List Value) × FieldsDone (schema_nodes l.schema) (take l.index (field_ids (seen_fields l.fields))) l.initial.cursor l.cursor xs × (length xs ≡ l.index)
    × g.M.Make.fields_stand_for l.maker (schema_nodes l.schema) (seen_fields l.fields) l.fn.at l.values xs)
    × ((front : List ℕ) → g.M.Make.begins l.fn.maker front → g.M.Make.begins l.maker front)

abbrev pub decreases-fields::read_runs-loop-index : goal.decreases-fields::read_runs-loop-index
decreases-fields::read_runs-loop-index g l = length l.fields - l.index
