-- The places of data.
use Rattle.std.specs.Prelude.{◌≡◌, ℕ, Bool, true, false, List, Option, Some, None, slice_get}
use Rattle.avro_schema.specs.Node.{Node, node_at}
use Rattle.avro_schema.specs.Value.{Value}
use Rattle.avro_binary.specs.declared.place.Place.{Place}

-- a datum as the value of a branch of a union, if there is one
abbrev pub in_branch : Option ℕ → Value → Value
in_branch None v = v
in_branch (Some k) v = Value.union k v

-- the place of a datum of a node, as the value of a branch of a union, if there is one
abbrev pub placed : Option ℕ → ℕ → Place
placed branch id = record { node = record { 0 = id }; branch = branch }

-- the place of a datum of a node that is in no union
abbrev pub alone : ℕ → Place
alone id = placed None id

-- the place of the value of a union's branch, which is of a node
abbrev pub branch_place : ℕ → ℕ → Place
branch_place k id = placed (Some k) id

-- the node is a union
abbrev pub is_union : Node → Bool
is_union (Node.union ids) = true
is_union n = false

-- none of the branches of a union is a union
abbrev pub HoldsNoUnion : List Node → List ℕ → Type 0
HoldsNoUnion nodes ids = (k id : ℕ) → slice_get ids k ≡ Some id → is_union (node_at nodes id) ≡ false

-- a datum of the node may be at the place: no union is the value of a branch
abbrev pub MayBeAt : Node → Place → Type 0
MayBeAt n at = is_union n ≡ true → at.branch ≡ None

-- A maker is told the place of each part by its node alone, and by its branch where it is one.
pub record AreTold {S I E F : Type 0} (branch_at : S → Place → ℕ → ℕ → Place) (item_at : S → I → ℕ → Place) (entry_at : S → E → ℕ → Place) (field_at : S → F → ℕ → Place) : Type 0 where
  pub branches : (s : S) (at : Place) (k id : ℕ) → branch_at s at k id ≡ branch_place k id
  pub items : (s : S) (items : I) (id : ℕ) → item_at s items id ≡ alone id
  pub entries : (s : S) (entries : E) (id : ℕ) → entry_at s entries id ≡ alone id
  pub fields : (s : S) (fields : F) (id : ℕ) → field_at s fields id ≡ alone id
