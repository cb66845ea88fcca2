-- Nodes by their kinds: records also by how many fields they have, and fixeds by how many bytes.
use Rattle.std.specs.Prelude.{◌≡◌, ℕ, true, List, length, Option, Some, None}
use Rattle.std.specs.Ordering.{nat_cmp, ordering_then}
use Rattle.std.specs.declared.cmp.Ordering.{Ordering}
use Rattle.std.specs.BTreeMap.{BTreeMap, get}
use Rattle.avro_schema.specs.Node.{Node, node_at}
use Rattle.avro_schema_json.specs.inside.Rows.{has_place}
use Rattle.avro_schema_json.specs.inside.Covers.{place_of}
use Rattle.avro_schema_json.specs.declared.defaults.rows.Row.{Row}

abbrev pub pair_cmp : ℕ × ℕ → ℕ × ℕ → Ordering
pair_cmp a b = ordering_then (nat_cmp a.0 b.0) (nat_cmp a.1 b.1)

-- the number of a kind, and a size
abbrev pub kind_of : Node → ℕ × ℕ
kind_of Node.null = (0, 0)
kind_of Node.boolean = (1, 0)
kind_of Node.int = (2, 0)
kind_of Node.long = (3, 0)
kind_of Node.bytes = (4, 0)
kind_of Node.string = (5, 0)
kind_of (Node.array items) = (6, 0)
kind_of (Node.map_of values) = (7, 0)
kind_of (Node.union ids) = (8, 0)
kind_of (Node.record_of name aliases fields) = (9, length fields)
kind_of (Node.enum name aliases symbols default) = (10, 0)
kind_of (Node.fixed name aliases count) = (11, count)

-- a place is in a row that may be there
abbrev pub HasRow : Option Row → ℕ → Type 0
HasRow None p = ⊥
HasRow (Some row) p = has_place row.words p ≡ true

-- a place is in the row of a kind
abbrev pub HasKind : BTreeMap (ℕ × ℕ) Row → ℕ × ℕ → ℕ → Type 0
HasKind rows kind p = HasRow (get pair_cmp rows kind) p

-- what was there is there
abbrev pub KeepsKinds : BTreeMap (ℕ × ℕ) Row → BTreeMap (ℕ × ℕ) Row → Type 0
KeepsKinds before after = (kind : ℕ × ℕ) (p : ℕ) → HasKind before kind p → HasKind after kind p

-- each node is in the row of its kind
abbrev pub AreKinds : List Node → ℕ → BTreeMap (ℕ × ℕ) Row → Type 0
AreKinds nodes last rows = (m : ℕ) → HasKind rows (kind_of (node_at nodes m)) (place_of last m)
