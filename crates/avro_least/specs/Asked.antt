-- What a pair of nodes asks for, once all names are compared.
use Rattle.std.specs.Prelude.{◌≡◌, ℕ, suc, cond, List, [], ◌∷◌, Option, Some, None, slice_get, unwrap_or, option_map, map, is_some, is_none, Bool, ◌||◌, ◌&&◌, nat_lt, length, ◌/◌, ◌%◌}
use Rattle.avro_schema.specs.Node.{Node, FieldNode, node_at, field_ids}
use Rattle.avro_compare.specs.Match.{is_match, first_match}
use Rattle.avro_compare.specs.Source.{reader_field, missing_field}
use Rattle.avro_compare.specs.Children.{Pair, children_of, has_local_fault, lacks_symbol}
use Rattle.avro_least.specs.Tables.{Least, LeastTable, ErringTable, one, around, together, lesser, best_of, all_of, pair_number, AreErrorsShown, erring_of, IsLowPair, no_parts}
use Rattle.avro_least.specs.Reached.{is_key}

-- a writer's field, and the reader's field whose source it is
pub record Row : Type 0 where
  pub node : ℕ
  pub theirs : Option ℕ

-- what a pair of nodes requires once names are compared
pub data Asked : Type 0 where
  -- nothing: no datum errs
  quiet : Asked
  -- the writer's least datum: each datum errs
  whole : Asked
  -- a datum of one node
  lone : Asked
  -- the same writer's node against another reader's
  same : ℕ → Asked
  -- one part
  part : ℕ → ℕ → Asked
  -- one of the writer's branches
  branches : List ℕ → Asked
  -- one of the fields, and the others
  fields : List Row → Asked

-- the rows of the writer's fields from an index on
abbrev pub rows_from : List FieldNode → List FieldNode → ℕ → List ℕ → List Row
rows_from ws rs index [] = []
rows_from ws rs index (p ∷ ps) = record { node = p; theirs = option_map (λ f. f.node) (reader_field ws rs index) } ∷ rows_from ws rs (suc index) ps

-- of two nodes that match and are no unions
abbrev pub asked_inside : Node → Node → Asked
asked_inside Node.bytes Node.string = lone
asked_inside (Node.enum a xs symbols x) (Node.enum b ys theirs y) = cond (lacks_symbol symbols theirs y) lone quiet
asked_inside (Node.record_of a xs fs) (Node.record_of b ys theirs) =
    cond (is_some (missing_field fs theirs)) whole (fields (rows_from fs theirs 0 (field_ids fs)))
asked_inside (Node.array a) (Node.array b) = part a b
asked_inside (Node.map_of a) (Node.map_of b) = part a b
asked_inside n q = quiet

-- what a reader's union requires: its first branch that matches; without one each datum errs
abbrev pub asked_branch : List ℕ → Option ℕ → Asked
asked_branch ids None = whole
asked_branch ids (Some k) = same (unwrap_or (slice_get ids k) 0)

-- what a pair of nodes requires: of a writer's union each branch, of a reader's the first that matches, of others their
-- parts
abbrev pub asked : List Node → List Node → Node → Node → Asked
asked writer reader (Node.union ids) q = branches ids
asked writer reader n (Node.union ids) = asked_branch ids (first_match writer reader n ids)
asked writer reader n q = cond (is_match writer reader n q) (asked_inside n q) whole

-- what it comes to
abbrev pub err_of_row : ErringTable → Row → Option Least
err_of_row erring row = of_reader row.theirs
  where
    of_reader : Option ℕ → Option Least
    of_reader None = None
    of_reader (Some q) = erring row.node q

-- the entry of a record, by its rows
abbrev pub err_of_rows : ℕ → LeastTable → ErringTable → List Row → Option Least
err_of_rows limit table erring [] = None
err_of_rows limit table erring (row ∷ rows) =
    lesser (together limit (err_of_row erring row) (all_of limit table (map (λ r. r.node) rows)))
    (together limit (table row.node) (err_of_rows limit table erring rows))

-- the entry of a pair, by what it requires
abbrev pub asked_value : ℕ → LeastTable → ErringTable → ℕ → ℕ → Asked → Option Least
asked_value limit table erring w r quiet = None
asked_value limit table erring w r whole = table w
asked_value limit table erring w r lone = Some one
asked_value limit table erring w r (same q) = erring w q
asked_value limit table erring w r (part a b) = around limit (erring a b)
asked_value limit table erring w r (branches ids) = around limit (best_of (λ p. erring p r) ids)
asked_value limit table erring w r (fields rows) = around limit (err_of_rows limit table erring rows)

-- by its number
abbrev pub asked_at : List Node → List Node → ℕ → Asked
asked_at writer reader k = asked writer reader (node_at writer (k / length reader)) (node_at reader (k % length reader))

-- The pairs that a pair leads to: its children, and none where it has a fault of its own, which is enough.
abbrev pub open_children : List Node → List Node → ℕ → ℕ → Node → Node → List Pair
open_children writer reader w r n q = cond (has_local_fault writer reader n q) [] (children_of writer reader w r n q)

-- the children of the pair with this number
abbrev pub children_at : List Node → List Node → ℕ → List Pair
children_at writer reader k =
    open_children writer reader (k / length reader) (k % length reader) (node_at writer (k / length reader)) (node_at reader (k % length reader))

-- a pair of nodes of the schemas whose number is there, unless the writer's is dead
abbrev pub is_known : ℕ → LeastTable → List ℕ → Pair → Bool
is_known count table keys c = is_none (table c.w) || (nat_lt c.r count && is_key keys (pair_number count c.w c.r))

-- the numbers of the pairs whose writer's node is not dead
abbrev pub live_numbers : ℕ → LeastTable → List Pair → List ℕ
live_numbers count table [] = []
live_numbers count table (c ∷ cs) = cond (is_none (table c.w)) (live_numbers count table cs) (pair_number count c.w c.r ∷ live_numbers count table cs)

-- the numbers of those whose writer's node is not dead
abbrev pub steps_at : List Node → List Node → LeastTable → ℕ → List ℕ
steps_at writer reader table k = live_numbers (length reader) table (children_at writer reader k)

-- each entry of the pairs that were reached has a datum that errs
abbrev pub ArePairsShown : List Node → List Node → ℕ → LeastTable → List ℕ → List (Option Least) → Type 0
ArePairsShown writer reader limit table keys entries =
    AreErrorsShown writer reader limit (is_known (length reader) table keys) (erring_of (length reader) table keys entries)

-- no step lowers the entry at an index
abbrev pub IsLowAtIndex : List Node → List Node → ℕ → LeastTable → List ℕ → List (Option Least) → ℕ → Type 0
IsLowAtIndex writer reader limit table keys entries i = (k : ℕ) → slice_get keys i ≡ Some k
    → IsLowPair writer reader limit table (erring_of (length reader) table keys entries) k (unwrap_or (slice_get entries i) (Some no_parts))
