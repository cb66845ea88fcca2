-- The parts of a pair of nodes: the pairs that it leads to, by index, and what its entry comes to by one of them.
use Rattle.std.specs.Prelude.{◌≡◌, ◌<◌, ℕ, zero, suc, List, [], ◌∷◌, Option, Some, None, slice_get, unwrap_or, option_map, map, length, Bool, true}
use Rattle.std.specs.Global.{Vec}
use Rattle.avro_schema.specs.Node.{Node, node_at, fields_of, field_ids}
use Rattle.avro_schema.specs.declared.schema.NodeId.{NodeId}
use Rattle.avro_compare.specs.Children.{Pair}
use Rattle.avro_least.specs.Tables.{Least, LeastTable, ErringTable, around, together, all_of, no_parts, one}
use Rattle.avro_least.specs.Asked.{Row, Asked}
use Rattle.avro_least.specs.SeenLeast.{given_entry}
use Rattle.avro_least.specs.declared.kept.Least.{Least as KeptLeast}

-- the least data of all nodes but the one at an index
abbrev pub least_of_others : ℕ → LeastTable → List ℕ → ℕ → Option Least
least_of_others limit table [] k = Some no_parts
least_of_others limit table (p ∷ ps) zero = all_of limit table ps
least_of_others limit table (p ∷ ps) (suc k) = together limit (table p) (least_of_others limit table ps k)

-- the pair that a field leads to
abbrev pub row_part : Row → Option Pair
row_part row = option_map (λ q. record { w = row.node; r = q }) row.theirs

-- each part's pair; a field that no reader's field takes has none
abbrev pub parts_of : ℕ → ℕ → Asked → List (Option Pair)
parts_of w r (Asked.same q) = Some (record { w = w; r = q }) ∷ []
parts_of w r (Asked.part a b) = Some (record { w = a; r = b }) ∷ []
parts_of w r (Asked.branches ids) = map (λ p. Some (record { w = p; r = r })) ids
parts_of w r (Asked.fields rows) = map row_part rows
parts_of w r a = []

abbrev pub part_at : ℕ → ℕ → Asked → ℕ → Option Pair
part_at w r a k = unwrap_or (slice_get (parts_of w r a) k) None

-- the pair of each part passes
abbrev pub PartsPass : (Pair → Bool) → ℕ → ℕ → Asked → Type 0
PartsPass test w r a = (k : ℕ) (c : Pair) → part_at w r a k ≡ Some c → test c ≡ true

-- that of each field
abbrev pub RowsPass : (Pair → Bool) → List Row → Type 0
RowsPass test rows = (k : ℕ) (c : Pair) → unwrap_or (slice_get (map row_part rows) k) None ≡ Some c → test c ≡ true

-- the entry around that of a part
abbrev pub around_part : ℕ → LeastTable → Asked → ℕ → Option Least → Option Least
around_part limit table (Asked.same q) k e = e
around_part limit table (Asked.part a b) k e = around limit e
around_part limit table (Asked.branches ids) k e = around limit e
around_part limit table (Asked.fields rows) k e = around limit (together limit e (least_of_others limit table (map (λ row. row.node) rows) k))
around_part limit table a k e = None

abbrev pub entry_of_part : ErringTable → Option Pair → Option Least
entry_of_part erring None = None
entry_of_part erring (Some c) = erring c.w c.r

-- what a pair's entry comes to by one part
abbrev pub value_by_part : ℕ → LeastTable → ErringTable → ℕ → ℕ → Asked → ℕ → Option Least
value_by_part limit table erring w r a k = around_part limit table a k (entry_of_part erring (part_at w r a k))

-- and by none
abbrev pub value_alone : LeastTable → ℕ → Asked → Option Least
value_alone table w Asked.whole = table w
value_alone table w Asked.lone = Some one
value_alone table w a = None

-- the nodes of the fields of a record; of other nodes none
abbrev pub nodes_of : Node → List ℕ
nodes_of n = field_ids (unwrap_or (fields_of n) [])

-- the entries of all but each
abbrev pub AreOthersOf : ℕ → LeastTable → List ℕ → List (Option KeptLeast) → Type 0
AreOthersOf limit table ps es = (k : ℕ) → k < length ps → given_entry (slice_get es k) ≡ least_of_others limit table ps k

abbrev pub row_items : Option (Vec (Option KeptLeast)) → List (Option KeptLeast)
row_items None = []
row_items (Some row) = row.items

abbrev pub others_at : List (Vec (Option KeptLeast)) → ℕ → List (Option KeptLeast)
others_at rows i = row_items (slice_get rows i)

-- for the fields of each of the first nodes
abbrev pub AreOthers : List Node → ℕ → LeastTable → ℕ → List (Vec (Option KeptLeast)) → Type 0
AreOthers writer limit table count rows = (p : ℕ) → p < count → AreOthersOf limit table (nodes_of (node_at writer p)) (others_at rows p)

-- how contracts see a pair of ids
abbrev pub seen_pair : Option (NodeId × NodeId) → Option Pair
seen_pair o = option_map (λ c. record { w = c.0.0; r = c.1.0 }) o
