-- Fields next to one another whose data take no bytes.
use Rattle.std.specs.Prelude.{◌≡◌, ℕ, ◌≤◌, Bool, true, ◌&&◌, List, [], Some, length, nat_le, slice_get, take, drop, unwrap_or}
use Rattle.std.specs.Global.{Vec}
use Rattle.avro_schema.specs.Empty.{are_empty}
use Rattle.avro_schema.specs.Empties.{empty_datum, empty_parts, have_measure}
use Rattle.avro_schema.specs.Fits.{fields_fit}
use Rattle.avro_schema.specs.Node.{Node, node_at, fields_of, field_ids}
use Rattle.avro_schema.specs.Value.{Values, values_size, values_depth}
use Rattle.avro_schema.specs.declared.runs.EmptyFields.{EmptyFields}

-- the nodes of a record's fields, and none of another node
abbrev pub ids_at : Node → List ℕ
ids_at n = field_ids (unwrap_or (fields_of n) [])

-- The first of some nodes have data without bytes: this many of them, with this number of nodes in all and this depth
-- of the deepest.
pub record StartWithEmpties (nodes : List Node) (ids : List ℕ) (run : EmptyFields) : Type 0 where
  pub few : run.fields ≤ length ids
  pub data_are : Values
  pub fitting : fields_fit nodes (take run.fields ids) data_are ≡ true
  pub empty : are_empty data_are ≡ true
  pub counted : values_size data_are ≡ run.nodes
  pub deep : values_depth data_are ≡ run.depth

-- the same as a test
abbrev pub is_run : List Node → List ℕ → EmptyFields → Bool
is_run nodes ids run = nat_le run.fields (length ids)
    && have_measure run.nodes run.depth (empty_parts (λ i. empty_datum run.depth nodes (node_at nodes i)) (take run.fields ids))

-- what is kept at an index is such a run of the fields from there on
abbrev pub AreRuns : List Node → List ℕ → List EmptyFields → Type 0
AreRuns nodes ids runs = (k : ℕ) (run : EmptyFields) → slice_get runs k ≡ Some run → is_run nodes (drop k ids) run ≡ true

-- each list has the runs of the node at its index
abbrev pub AreAllRuns : List Node → List (Vec EmptyFields) → Type 0
AreAllRuns nodes lists = (i : ℕ) (runs : Vec EmptyFields) → slice_get lists i ≡ Some runs → AreRuns nodes (ids_at (node_at nodes i)) runs.items
