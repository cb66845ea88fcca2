-- In which order an object's members are displayed.
use Rattle.std.specs.Prelude.{◌≡◌, ℕ, ◌+◌, List, [], ◌∷◌}
use Rattle.serde_json.specs.Data.{Data, Members, no_members, member, put}

-- the members, with each key's tree put at the key, one after another; a tree is that of the key's index
abbrev pub put_each : (ℕ → Data) → ℕ → List (List ℕ) → Members → Members
put_each tree index [] members = members
put_each tree index (k ∷ ks) members = put_each tree (index + 1) ks (put k (tree index) members)

-- members in an order of keys, each with the tree of its index
abbrev pub in_order : (ℕ → Data) → List (List ℕ × ℕ) → Members
in_order tree [] = no_members
in_order tree (e ∷ es) = member e.0 (tree e.1) (in_order tree es)

-- the keys with their indices, in the order that their members have, whatever the trees are
abbrev pub IsOrder : List (List ℕ) → List (List ℕ × ℕ) → Type 0
IsOrder keys order = (tree : ℕ → Data) → in_order tree order ≡ put_each tree 0 keys no_members
