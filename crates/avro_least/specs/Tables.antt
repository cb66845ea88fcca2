-- The least data of a writer's nodes, and the least data that err at pairs of nodes, as tables that no step lowers.
use Rattle.std.specs.Prelude.{◌≡◌, ℕ, suc, ◌+◌, max, ◌≤◌, Bool, true, cond, ◌&&◌, ◌||◌, List, [], ◌∷◌, Option, Some, None, slice_get, unwrap_or, Err, nat_lt, nat_le, ◌==◌, is_some, position, length, ◌*◌, ◌/◌, ◌%◌}
use Rattle.avro_schema.specs.Value.{Value, size, depth}
use Rattle.avro_schema.specs.Node.{Node, FieldNode, node_at, field_ids}
use Rattle.avro_schema.specs.Fits.{fits}
use Rattle.avro_compare.specs.Match.{is_match, first_match}
use Rattle.avro_compare.specs.Source.{reader_field, missing_field}
use Rattle.avro_compare.specs.Fault.{ResolutionFault}
use Rattle.avro_compare.specs.Resolve.{resolve}
use Rattle.avro_compare.specs.Children.{Pair, lacks_symbol}

-- the number of nodes of a datum, and its depth
pub record Least : Type 0 where
  pub nodes : ℕ
  pub depth : ℕ

-- by nodes, then by depth
pub record IsUnder (e : Least) (nodes depth : ℕ) : Type 0 where
  pub fewer : e.nodes ≤ nodes
  pub shallower : nodes ≤ e.nodes → e.depth ≤ depth

-- an entry is no more than these; no entry says that there is no datum
abbrev pub AtMost : Option Least → ℕ → ℕ → Type 0
AtMost None nodes depth = ⊥
AtMost (Some e) nodes depth = IsUnder e nodes depth

-- the entry of a datum without parts
abbrev pub one : Least
one = record { nodes = 1; depth = 1 }

-- the entry of no data
abbrev pub no_parts : Least
no_parts = record { nodes = 0; depth = 0 }

-- above the limit nothing is told apart: each such datum has more nodes than that
abbrev pub capped : ℕ → Least → Least
capped limit e = cond (nat_le e.nodes limit) e (record { nodes = suc limit; depth = 0 })

-- a node around
abbrev pub around : ℕ → Option Least → Option Least
around limit None = None
around limit (Some e) = Some (capped limit (record { nodes = suc e.nodes; depth = suc e.depth }))

-- one beside the other
abbrev pub together : ℕ → Option Least → Option Least → Option Least
together limit None b = None
together limit (Some a) None = None
together limit (Some a) (Some b) = Some (capped limit (record { nodes = a.nodes + b.nodes; depth = max a.depth b.depth }))

-- fewer nodes, or as many and less depth
abbrev pub precedes : Least → Least → Bool
precedes a b = nat_lt a.nodes b.nodes || (a.nodes == b.nodes && nat_lt a.depth b.depth)

-- the lesser, the first of equals
abbrev pub lesser : Option Least → Option Least → Option Least
lesser None b = b
lesser (Some a) None = Some a
lesser (Some a) (Some b) = cond (precedes b a) (Some b) (Some a)

-- an entry for each node, by its id
abbrev pub LeastTable : Type 0
LeastTable = ℕ → Option Least

-- the entry of several parts together
abbrev pub all_of : ℕ → LeastTable → List ℕ → Option Least
all_of limit table [] = Some no_parts
all_of limit table (p ∷ ps) = together limit (table p) (all_of limit table ps)

-- the least entry of several
abbrev pub best_of : LeastTable → List ℕ → Option Least
best_of table [] = None
best_of table (p ∷ ps) = lesser (table p) (best_of table ps)

-- what a node's entry is by those of its parts
abbrev pub least_datum : ℕ → LeastTable → Node → Option Least
least_datum limit table (Node.union ids) = around limit (best_of table ids)
least_datum limit table (Node.record_of name aliases fields) = around limit (all_of limit table (field_ids fields))
least_datum limit table _ = Some one

-- no step lowers the table
abbrev pub IsLowForData : List Node → ℕ → LeastTable → Type 0
IsLowForData nodes limit table = (p s d : ℕ) → AtMost (least_datum limit table (node_at nodes p)) s d → AtMost (table p) s d

-- an entry for each pair of ids, the writer's and the reader's
abbrev pub ErringTable : Type 0
ErringTable = ℕ → ℕ → Option Least

-- the field of a writer's node, where it is some reader's source
abbrev pub err_of_field : ErringTable → ℕ → Option FieldNode → Option Least
err_of_field erring p None = None
err_of_field erring p (Some f) = erring p f.node

-- one field that errs, and the least data of the others, from an index on
abbrev pub err_of_fields : ℕ → LeastTable → ErringTable → List FieldNode → List FieldNode → ℕ → List ℕ → Option Least
err_of_fields limit table erring ws rs index [] = None
err_of_fields limit table erring ws rs index (p ∷ ps) =
    lesser (together limit (err_of_field erring p (reader_field ws rs index)) (all_of limit table ps))
    (together limit (table p) (err_of_fields limit table erring ws rs (suc index) ps))

-- of two nodes that match and are no unions
abbrev pub err_inside : ℕ → LeastTable → ErringTable → ℕ → Node → Node → Option Least
err_inside limit table erring w Node.bytes Node.string = Some one
err_inside limit table erring w (Node.enum a xs symbols x) (Node.enum b ys theirs y) = cond (lacks_symbol symbols theirs y) (Some one) None
err_inside limit table erring w (Node.record_of a xs fields) (Node.record_of b ys theirs) =
    cond (is_some (missing_field fields theirs)) (table w) (around limit (err_of_fields limit table erring fields theirs 0 (field_ids fields)))
err_inside limit table erring w (Node.array a) (Node.array b) = around limit (erring a b)
err_inside limit table erring w (Node.map_of a) (Node.map_of b) = around limit (erring a b)
err_inside limit table erring w n q = None

-- what a pair's entry is by the others
abbrev pub err_of : List Node → List Node → ℕ → LeastTable → ErringTable → ℕ → ℕ → Node → Node → Option Least
err_of writer reader limit table erring w r (Node.union ids) q = around limit (best_of (λ p. erring p r) ids)
err_of writer reader limit table erring w r n (Node.union ids) = of_branch (first_match writer reader n ids)
  where
    of_branch : Option ℕ → Option Least
    of_branch None = table w
    of_branch (Some k) = erring w (unwrap_or (slice_get ids k) 0)
err_of writer reader limit table erring w r n q = cond (is_match writer reader n q) (err_inside limit table erring w n q) (table w)

-- no step lowers the tables, where the writer's node has data
pub record AreLow (writer reader : List Node) (limit : ℕ) (table : LeastTable) (erring : ErringTable) : Type 0 where
  pub for_data : IsLowForData writer limit table
  pub for_errors : (w r s d : ℕ) → AtMost (table w) s d
      → AtMost (err_of writer reader limit table erring w r (node_at writer w) (node_at reader r)) s d → AtMost (erring w r) s d

-- an entry is these numbers, where they are within the limit
abbrev pub Exactly : ℕ → Option Least → ℕ → ℕ → Type 0
Exactly limit None s d = ⊥
Exactly limit (Some e) s d = e.nodes ≤ limit → (s ≡ e.nodes) × (d ≡ e.depth)

-- a datum of a node that has this entry
pub record ShowsData (writer : List Node) (limit : ℕ) (n : Node) (e : Option Least) : Type 0 where
  pub datum : Value
  pub fitting : fits writer n datum ≡ true
  pub exact : Exactly limit e (size datum) (depth datum)

-- each entry has a datum
abbrev pub AreDataShown : List Node → ℕ → LeastTable → Type 0
AreDataShown writer limit table = (p : ℕ) → is_some (table p) ≡ true → ShowsData writer limit (node_at writer p) (table p)

-- a datum of a node that errs and has this entry
pub record ShowsError (writer reader : List Node) (limit : ℕ) (n q : Node) (e : Option Least) : Type 0 where
  pub datum : Value
  pub fitting : fits writer n datum ≡ true
  pub fault : ResolutionFault
  pub faulty : resolve writer reader n q datum ≡ Err fault
  pub exact : Exactly limit e (size datum) (depth datum)

-- each entry of the pairs that pass the test has a datum that errs
abbrev pub AreErrorsShown : List Node → List Node → ℕ → (Pair → Bool) → ErringTable → Type 0
AreErrorsShown writer reader limit known erring = (w r : ℕ) → known (record { w = w; r = r }) ≡ true → is_some (erring w r) ≡ true
    → ShowsError writer reader limit (node_at writer w) (node_at reader r) (erring w r)

-- The table of the pairs that were reached: each has a number, the writer's id times the reader's number of nodes and
-- the reader's id. A dead node has no entry; a pair that was not reached, or that is none, has the least of all.
abbrev pub pair_number : ℕ → ℕ → ℕ → ℕ
pair_number count w r = w * count + r

-- the entry of a number that was reached; that of no data otherwise
abbrev pub reached_entry : List (Option Least) → Option ℕ → Option Least
reached_entry entries None = Some no_parts
reached_entry entries (Some i) = unwrap_or (slice_get entries i) (Some no_parts)

-- the table of pairs by their numbers, from the entries of those that were reached
abbrev pub erring_of : ℕ → LeastTable → List ℕ → List (Option Least) → ErringTable
erring_of count table keys entries w r = of_node (table w)
  where
    of_node : Option Least → Option Least
    of_node None = None
    of_node (Some e) = cond (nat_lt r count) (reached_entry entries (position (λ k. pair_number count w r == k) keys)) (Some no_parts)

-- no step lowers the entry of the pair at an index
abbrev pub IsLowPair : List Node → List Node → ℕ → LeastTable → ErringTable → ℕ → Option Least → Type 0
IsLowPair writer reader limit table erring k e = (s d : ℕ)
    → AtMost (err_of writer reader limit table erring (k / length reader) (k % length reader) (node_at writer (k / length reader)) (node_at reader (k % length reader))) s d
    → AtMost e s d

-- the one inside
pub record IsAround (a : Option Least) (e : Least) : Type 0 where
  pub inner : Least
  pub is : a ≡ Some inner
  pub nodes : e.nodes ≡ suc inner.nodes
  pub depth : e.depth ≡ suc inner.depth

-- the two beside each other
pub record IsTogether (a b : Option Least) (e : Least) : Type 0 where
  pub first : Least
  pub second : Least
  pub first_is : a ≡ Some first
  pub second_is : b ≡ Some second
  pub nodes : e.nodes ≡ first.nodes + second.nodes
  pub depth : e.depth ≡ max first.depth second.depth

-- a datum of a node with exactly the entry's numbers
pub record IsLeastOf (writer : List Node) (table : LeastTable) (p : ℕ) (v : Value) : Type 0 where
  pub fitting : fits writer (node_at writer p) v ≡ true
  pub numbers : table p ≡ Some (record { nodes = size v; depth = depth v })

-- an entry has at most this many nodes
abbrev pub IsWithin : ℕ → Option Least → Type 0
IsWithin limit None = ⊥
IsWithin limit (Some e) = e.nodes ≤ limit

-- the number of nodes of an entry
abbrev pub count_of : Option Least → ℕ
count_of None = 0
count_of (Some e) = e.nodes
