-- How contracts see the kinds of a union's branches.
use Rattle.std.specs.Prelude.{◌≡◌, ℕ, Bool, true, false, List, Option, map, is_some, filter_map, MatchOption}
use Rattle.std.specs.List.{list_all}
use Rattle.std.specs.Global.{Vec}
use Rattle.avro_schema.specs.Node.{Node, node_at}
use Rattle.avro_schema.specs.WellFormed.{BranchKind, unnamed, named, branch_kind}
use Rattle.avro_schema.specs.declared.branches.Kind.{Kind}

-- a kind of branch of the program, as a kind
abbrev pub kind_of : Kind → BranchKind
kind_of Kind.Null = unnamed 0
kind_of Kind.Boolean = unnamed 1
kind_of Kind.Int = unnamed 2
kind_of Kind.Long = unnamed 3
kind_of Kind.Bytes = unnamed 4
kind_of Kind.Str = unnamed 5
kind_of Kind.Array = unnamed 6
kind_of Kind.Map = unnamed 7
kind_of (Kind.Named name) = named name.now

-- the kind of the node of an id
abbrev pub kind_at : List Node → ℕ → Option BranchKind
kind_at nodes id = branch_kind (node_at nodes id)

-- the node of an id has a kind: it is no union
abbrev pub has_kind : List Node → ℕ → Bool
has_kind nodes id = is_some (kind_at nodes id)

-- the kinds of the branches, or nothing where one has none
abbrev pub AreKinds : List Node → List ℕ → Option (Vec Kind) → Type 0
AreKinds nodes ids found = MatchOption found (list_all (has_kind nodes) ids ≡ false)
    (λ kinds. (list_all (has_kind nodes) ids ≡ true) × (map kind_of kinds.items ≡ filter_map (kind_at nodes) ids))
