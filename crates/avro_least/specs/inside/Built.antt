-- What the builder of least data builds, of entries of no more nodes than it may use.
use Rattle.std.specs.Prelude.{◌≡◌, ℕ, suc, ◌≤◌, true, List, [], ◌∷◌}
use Rattle.avro_name.specs.Name.{Name}
use Rattle.avro_schema.specs.Value.{Value}
use Rattle.avro_schema.specs.Node.{Node, FieldNode, node_at}
use Rattle.avro_schema.specs.WellFormed.{is_schema}
use Rattle.avro_least.specs.Tables.{LeastTable, IsLowForData, AreDataShown, IsLeastOf, IsWithin, count_of}

-- a least datum of the node of an id
abbrev pub Builds : List Node → LeastTable → ℕ → ℕ → Value → Type 0
Builds nodes table left p v = (limit : ℕ) → is_schema nodes ≡ true → IsLowForData nodes limit table → AreDataShown nodes limit table
    → IsWithin limit (table p) → count_of (table p) ≤ left → IsLeastOf nodes table p v

-- a least datum of any id of this node, whose parts use no more
abbrev pub BuildsAt : List Node → LeastTable → ℕ → Node → Value → Type 0
BuildsAt nodes table left n v = (limit p : ℕ) → is_schema nodes ≡ true → IsLowForData nodes limit table → AreDataShown nodes limit table
    → IsWithin limit (table p) → node_at nodes p ≡ n → count_of (table p) ≤ suc left → IsLeastOf nodes table p v

abbrev pub BuildsAll : List Node → LeastTable → ℕ → List ℕ → List Value → Type 0
BuildsAll nodes table left [] [] = Unit {0}
BuildsAll nodes table left (p ∷ ps) (v ∷ vs) = Builds nodes table left p v × BuildsAll nodes table left ps vs
BuildsAll nodes table left _ _ = ⊥

abbrev pub BuildsRecord : List Node → LeastTable → ℕ → List FieldNode → Value → Type 0
BuildsRecord nodes table left fields v = (name : Name) (aliases : List Name) → BuildsAt nodes table left (Node.record_of name aliases fields) v
