-- What is known of the data of a schema's nodes that take no bytes.
use Rattle.std.specs.Prelude.{◌≡◌, ℕ, zero, suc, Bool, true, false, ◌&&◌, ◌==◌, List, [], ◌∷◌, Option, Some, None, slice_get, option_map}
use Rattle.avro_schema.specs.Node.{Node, node_at, field_ids}
use Rattle.avro_schema.specs.Value.{Value, Values, no_values, value, size, depth, values_size, values_depth}
use Rattle.avro_schema.specs.declared.empties.Empty.{Empty}

-- a datum before others, where there are all of them
abbrev pub before : Option Value → Option Values → Option Values
before (Some v) (Some vs) = Some (value v vs)
before _ _ = None

-- one datum for each id, where each node has one
abbrev pub empty_parts : (ℕ → Option Value) → List ℕ → Option Values
empty_parts part [] = Some no_values
empty_parts part (id ∷ ids) = before (part id) (empty_parts part ids)

-- the datum of a fixed of no bytes
abbrev pub empty_fixed : ℕ → Option Value
empty_fixed zero = Some (Value.fixed [])
empty_fixed (suc count) = None

-- the datum without bytes of a node, by those of its parts
abbrev pub empty_inside : (ℕ → Option Value) → Node → Option Value
empty_inside part Node.null = Some Value.null
empty_inside part (Node.fixed name aliases count) = empty_fixed count
empty_inside part (Node.record_of name aliases fields) = option_map Value.record_of (empty_parts part (field_ids fields))
empty_inside part _ = None

-- the datum without bytes of a node, if it is no deeper than this
abbrev pub empty_datum : ℕ → List Node → Node → Option Value
empty_datum zero nodes n = None
empty_datum (suc levels) nodes n = empty_inside (λ id. empty_datum levels nodes (node_at nodes id)) n

-- a datum that may be there is there, with this number of nodes and this depth
abbrev pub has_measure : ℕ → ℕ → Option Value → Bool
has_measure count levels None = false
has_measure count levels (Some v) = (size v == count) && (depth v == levels)

-- what is kept at an index is the number of nodes and the depth of the datum without bytes of the node there
abbrev pub AreEmpties : List Node → List (Option Empty) → Type 0
AreEmpties nodes known = (i : ℕ) (e : Empty) → slice_get known i ≡ Some (Some e) → has_measure e.nodes e.depth (empty_datum e.depth nodes (node_at nodes i)) ≡ true

-- data that may be there are there, with this number of nodes in all and this depth of the deepest
abbrev pub have_measure : ℕ → ℕ → Option Values → Bool
have_measure count levels None = false
have_measure count levels (Some vs) = (values_size vs == count) && (values_depth vs == levels)
