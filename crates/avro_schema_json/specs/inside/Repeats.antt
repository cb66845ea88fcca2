-- Unions in which a branch occurs twice, and records that have two fields of one name.
use Rattle.std.specs.Prelude.{◌≡◌, ◌⊎◌, ℕ, ◌+◌, ◌*◌, ◌<◌, true, List, length, map, Option, Some, None, slice_get, bytes_eq}
use Rattle.std.specs.List.{list_all, IsDistinct}
use Rattle.avro_schema.specs.Node.{Node, FieldNode, node_at, branches_of}
use Rattle.avro_schema.specs.WellFormed.{BranchKind, unnamed, named, branch_kind, is_edge}
use Rattle.avro_schema_json.specs.declared.error.SchemaError.{SchemaError}

-- an even number for each kind without a name, an odd one for each other node
abbrev pub kind_code : ℕ → Option BranchKind → ℕ
kind_code id (Some (unnamed k)) = k * 2
kind_code id (Some (named name)) = id * 2 + 1
kind_code id None = id * 2 + 1

abbrev pub code_by : List Node → ℕ → ℕ
code_by nodes id = kind_code id (branch_kind (node_at nodes id))

-- two branches have one code
abbrev pub Repeats : List Node → List ℕ → Type 0
Repeats nodes ids = (i : ℕ) × (j : ℕ) × (x : ℕ) × (y : ℕ) × (j < i) × (slice_get ids i ≡ Some x) × (slice_get ids j ≡ Some y) × (code_by nodes x ≡ code_by nodes y)

-- the same in a union whose edges are good
abbrev pub SomeRepeats : List Node → Type 0
SomeRepeats nodes =
    (m : ℕ) × (ids : List ℕ) × (m < length nodes) × (branches_of (node_at nodes m) ≡ Some ids)
    × (list_all (is_edge nodes m) ids ≡ true) × Repeats nodes ids

-- two fields have one name
abbrev pub RepeatsName : List FieldNode → Type 0
RepeatsName fields = (i : ℕ) × (j : ℕ) × (f : FieldNode) × (g : FieldNode) × (j < i) × (slice_get fields i ≡ Some f) × (slice_get fields j ≡ Some g) × (f.name ≡ g.name)

-- the same in a record
abbrev pub RecordRepeatsName : Node → Type 0
RecordRepeatsName (Node.record_of name aliases fields) = RepeatsName fields
RecordRepeatsName _ = ⊥

abbrev pub SomeRepeatsName : List Node → Type 0
SomeRepeatsName nodes = (m : ℕ) × (m < length nodes) × RecordRepeatsName (node_at nodes m)

-- no two fields have one name, and so in each record
abbrev pub AreFieldsDistinct : List FieldNode → Type 0
AreFieldsDistinct fields = IsDistinct bytes_eq (map (λ (f : FieldNode). f.name) fields)

abbrev pub HasDistinctNames : Node → Type 0
HasDistinctNames (Node.record_of name aliases fields) = AreFieldsDistinct fields
HasDistinctNames _ = Unit

abbrev pub AreNamesDistinct : List Node → Type 0
AreNamesDistinct nodes = (m : ℕ) → HasDistinctNames (node_at nodes m)

-- why nodes are refused before their defaults are read
abbrev pub IsRepeat : List Node → SchemaError → Type 0
IsRepeat nodes e =
    (e ≡ SchemaError.OutOfMemory) ⊎ ((e ≡ SchemaError.InvalidUnion) × SomeRepeats nodes) ⊎ ((e ≡ SchemaError.DuplicateField) × SomeRepeatsName nodes)
