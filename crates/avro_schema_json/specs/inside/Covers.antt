-- Rows that have the places of all nodes that JSON is a default of.
use Rattle.std.specs.Prelude.{◌≡◌, ℕ, Bool, true, List, [], ◌∷◌, Option, Some, None, is_some, nat_lt, if◌then◌else◌}
use Rattle.serde_json.specs.Data.{Data}
use Rattle.avro_schema.specs.Node.{Node, node_at, branches_of}
use Rattle.avro_schema_json.specs.DeclaredDefaults.{default_of}
use Rattle.avro_schema_json.specs.inside.OwnDefaults.{own_default}
use Rattle.avro_schema_json.specs.inside.Rows.{has_place}

-- the place of a node: its id, but the nodes past the last place share it
abbrev pub place_of : ℕ → ℕ → ℕ
place_of last m = if nat_lt m last then m else last

-- the JSON is a default of the node of an id itself, or of a node
abbrev pub owns : List Node → Data → ℕ → Bool
owns nodes d m = is_some (own_default nodes d (node_at nodes m))

abbrev pub fits : List Node → Data → ℕ → Bool
fits nodes d m = is_some (default_of nodes d (node_at nodes m))

-- a row has the place of each node that the JSON is a default of itself
abbrev pub Covers : List Node → ℕ → Data → List ℕ → Type 0
Covers nodes last d row = (m : ℕ) → owns nodes d m ≡ true → has_place row (place_of last m) ≡ true

-- the nodes that JSON is a default of itself where it is a default of a node: the branches of a union
abbrev pub ids_or : ℕ → Option (List ℕ) → List ℕ
ids_or m None = m ∷ []
ids_or m (Some ids) = ids

abbrev pub own_ids : List Node → ℕ → List ℕ
own_ids nodes m = ids_or m (branches_of (node_at nodes m))
