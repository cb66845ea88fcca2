-- How contracts see what a pair asks for, as a view of its comparison.
use Rattle.std.specs.Prelude.{◌≡◌, ◌/◌, ◌%◌, ℕ, List, Option, Some, None, map, length, slice_get, unwrap_or}
use Rattle.avro_schema.specs.Node.{Node}
use Rattle.avro_schema.specs.Seen.{ids_of}
use Rattle.avro_schema.specs.declared.schema.NodeId.{NodeId}
use Rattle.avro_compare.specs.Children.{Pair}
use Rattle.avro_compare.specs.Entries.{AreAscending, entry_at}
use Rattle.avro_compare.specs.Planned.{AreFor, IsComparison}
use Rattle.avro_compare.specs.Resolve.{fields_at}
use Rattle.avro_compare.specs.declared.comparison.Comparison.{Comparison}
use Rattle.avro_compare.specs.declared.comparison.At.{At}
use Rattle.avro_least.specs.Asked.{Row, Asked}
use Rattle.avro_least.specs.SeenAsk.{rows_by}
use Rattle.avro_least.specs.inside.Parts.{part_at, row_part}
use Rattle.avro_least.specs.declared.pairs.asking.Ask.{Ask}

-- the pair that a field leads to
abbrev pub pair_for : Option At → Option Pair
pair_for None = None
pair_for (Some At.Ignored) = None
pair_for (Some (At.Pair w r)) = Some (record { w = w.0; r = r.0 })

-- of records, the fields that lead to a pair
pub record KeepsRows (parts : List (ℕ × At)) (a : Asked) : Type 0 where
  pub rows : List Row
  pub is : a ≡ Asked.fields rows
  pub ascends : AreAscending 0 parts
  pub same : (k : ℕ) → pair_for (entry_at parts k) ≡ unwrap_or (slice_get (map row_part rows) k) None

-- the view is what a pair asks for; of the fields of records, only those that lead to a pair
abbrev pub IsKept : Ask → Asked → Type 0
IsKept Ask.Quiet a = a ≡ Asked.quiet
IsKept Ask.Whole a = a ≡ Asked.whole
IsKept Ask.Lone a = a ≡ Asked.lone
IsKept (Ask.Same q) a = a ≡ Asked.same q.0
IsKept (Ask.Part w r) a = a ≡ Asked.part w.0 r.0
IsKept (Ask.Branches ids) a = a ≡ Asked.branches (ids_of ids.now)
IsKept (Ask.Fields parts) a = KeepsRows parts.now a

-- the same with the ids of all of the writer's fields
abbrev pub view_of : List ℕ → Ask → Asked
view_of ids Ask.Quiet = Asked.quiet
view_of ids Ask.Whole = Asked.whole
view_of ids Ask.Lone = Asked.lone
view_of ids (Ask.Same q) = Asked.same q.0
view_of ids (Ask.Part w r) = Asked.part w.0 r.0
view_of ids (Ask.Branches branches) = Asked.branches (ids_of branches.now)
view_of ids (Ask.Fields parts) = Asked.fields (rows_by parts.now 0 ids)

-- the fields are those that the reader's record takes
abbrev pub AreTaken : Node → Node → Ask → Type 0
AreTaken n q (Ask.Fields parts) = AreFor (fields_at n) (fields_at q) parts.now
AreTaken n q ask = Unit {0}

-- the comparison of the pair of a number
pub record IsFound (writer reader : List Node) (key : ℕ) (p : Comparison) : Type 0 where
  pub comparison : IsComparison writer reader p
  pub from : p.w.0 ≡ key / length reader
  pub to : p.r.0 ≡ key % length reader

-- the comparison at each index is that of the pair of the number there
abbrev pub AreFound : List Node → List Node → List ℕ → List Comparison → Type 0
AreFound writer reader keys found = (i k : ℕ) (p : Comparison) → slice_get keys i ≡ Some k → slice_get found i ≡ Some p → IsFound writer reader k p

-- the pair of the part at an index
abbrev pub kept_part : ℕ → ℕ → Ask → ℕ → Option Pair
kept_part w r (Ask.Same q) k = part_at w r (Asked.same q.0) k
kept_part w r (Ask.Part a b) k = part_at w r (Asked.part a.0 b.0) k
kept_part w r (Ask.Branches ids) k = part_at w r (Asked.branches (ids_of ids.now)) k
kept_part w r (Ask.Fields parts) k = pair_for (entry_at parts.now k)
kept_part w r ask k = None

-- how many parts there are
abbrev pub kept_count : Ask → ℕ
kept_count (Ask.Same q) = 1
kept_count (Ask.Part a b) = 1
kept_count (Ask.Branches ids) = length ids.now
kept_count (Ask.Fields parts) = length parts.now
kept_count ask = 0

-- a pair beside an index
abbrev pub with_index : ℕ → Option Pair → Option (ℕ × Pair)
with_index k None = None
with_index k (Some c) = Some (k, c)

-- how contracts see an index with two ids
abbrev pub seen_part : Option (ℕ × NodeId × NodeId) → Option (ℕ × Pair)
seen_part None = None
seen_part (Some c) = Some (c.0, record { w = c.1.0; r = c.2.0 })

-- the index and the pair of the field of an entry
abbrev pub indexed : Option (ℕ × At) → Option (ℕ × Pair)
indexed None = None
indexed (Some e) = with_index e.0 (pair_for (Some e.1))

-- the index and the pair of one of these parts
abbrev pub nth_part : ℕ → ℕ → Ask → ℕ → Option (ℕ × Pair)
nth_part w r (Ask.Fields parts) n = indexed (slice_get parts.now n)
nth_part w r ask n = with_index n (kept_part w r ask n)

-- the fields are in order
abbrev pub AreOrdered : Ask → Type 0
AreOrdered (Ask.Fields parts) = AreAscending 0 parts.now
AreOrdered ask = Unit {0}
