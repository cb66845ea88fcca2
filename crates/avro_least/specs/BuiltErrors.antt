-- What the builder of least data that err builds, of entries of no more nodes than it may use.
use Rattle.std.specs.Prelude.{◌≡◌, ℕ, suc, ◌+◌, ◌≤◌, ◌<◌, Bool, true, false, cond, not, List, [], ◌∷◌, Option, Some, Err, ◌==◌, bytes_eq}
use Rattle.std.specs.List.{list_any}
use Rattle.avro_schema.specs.Value.{Value, no_values, value, no_entries, entry, size, depth}
use Rattle.avro_schema.specs.Node.{Node, node_at}
use Rattle.avro_schema.specs.Fits.{fits}
use Rattle.avro_schema.specs.WellFormed.{is_schema}
use Rattle.avro_compare.specs.Fault.{ResolutionFault}
use Rattle.avro_compare.specs.Resolve.{resolve}
use Rattle.avro_compare.specs.Children.{Pair}
use Rattle.avro_least.specs.Asked.{Row, Asked, asked, asked_value, err_of_row}
use Rattle.avro_least.specs.inside.Built.{Builds}
use Rattle.avro_least.specs.Tables.{Least, LeastTable, ErringTable, IsLowForData, AreDataShown, IsWithin, count_of, together, no_parts}
use Rattle.avro_least.specs.inside.Parts.{PartsPass}

-- the index of the first that passes, from one on
abbrev pub first_from : {A : Type 0} → (A → Bool) → ℕ → List A → ℕ
first_from test n [] = n
first_from test n (x ∷ xs) = cond (test x) n (first_from test (n + 1) xs)

-- a symbol that is not among others
abbrev pub is_lacking : List (List ℕ) → List ℕ → Bool
is_lacking theirs s = not (list_any (bytes_eq s) theirs)

-- the byte that begins no text, or the first symbol that the reader lacks
abbrev pub lone_value : Node → Node → Value
lone_value (Node.enum a xs symbols x) (Node.enum b ys theirs y) = Value.enum (first_from (is_lacking theirs) 0 symbols)
lone_value n q = Value.bytes (255 ∷ [])

-- a datum of one node that errs, as it is built
pub record IsLone (n q : Node) (v : Value) : Type 0 where
  pub symbol : (k : ℕ) → lone_value n q ≡ Value.enum k → k < 4294967296 → v ≡ Value.enum k
  pub bytes : lone_value n q ≡ Value.bytes (255 ∷ []) → v ≡ Value.bytes (255 ∷ [])

-- the same where the pair asks for it
abbrev pub BuildsLone : List Node → List Node → ℕ → ℕ → Value → Type 0
BuildsLone writer reader w r v = Asked.lone ≡ asked writer reader (node_at writer w) (node_at reader r) → IsLone (node_at writer w) (node_at reader r) v

-- one item, or one entry of the empty key
abbrev pub part_value : Node → Value → Value
part_value (Node.map_of id) v = Value.map_of (entry [] v no_entries)
part_value n v = Value.array (value v no_values)

-- the datum has a fault
abbrev pub Fails : List Node → List Node → Node → Node → Value → Type 0
Fails writer reader n q v = (fault : ResolutionFault) × (resolve writer reader n q v ≡ Err fault)

-- a datum that errs at a pair, with exactly the entry's numbers
pub record IsErringOf (writer reader : List Node) (erring : ErringTable) (w r : ℕ) (v : Value) : Type 0 where
  pub fitting : fits writer (node_at writer w) v ≡ true
  pub faulty : Fails writer reader (node_at writer w) (node_at reader r) v
  pub numbers : erring w r ≡ Some (record { nodes = size v; depth = depth v })

-- within the limit each entry of a known pair is what the pair asks for, and what it takes is known
pub record AreExact (writer reader : List Node) (limit : ℕ) (table : LeastTable) (erring : ErringTable) (known : Pair → Bool) : Type 0 where
  pub formed : is_schema writer ≡ true
  pub theirs : is_schema reader ≡ true
  pub low : IsLowForData writer limit table
  pub shown : AreDataShown writer limit table
  pub exact : (w r : ℕ) → known (record { w = w; r = r }) ≡ true → IsWithin limit (erring w r)
      → asked_value limit table erring w r (asked writer reader (node_at writer w) (node_at reader r)) ≡ erring w r
  pub some : (w r : ℕ) → known (record { w = w; r = r }) ≡ true → IsWithin limit (erring w r) → 1 ≤ count_of (erring w r)
  pub closed : (w r : ℕ) → known (record { w = w; r = r }) ≡ true → IsWithin limit (erring w r)
      → PartsPass known w r (asked writer reader (node_at writer w) (node_at reader r))

-- a least datum that errs at a pair
abbrev pub BuildsError : List Node → List Node → ℕ → LeastTable → ErringTable → ℕ → ℕ → ℕ → Value → Type 0
BuildsError writer reader limit table erring left w r v = (known : Pair → Bool) → AreExact writer reader limit table erring known
    → known (record { w = w; r = r }) ≡ true → IsWithin limit (erring w r) → count_of (erring w r) ≤ left → IsErringOf writer reader erring w r v

-- another reader's node is asked for
abbrev pub is_same : Asked → Bool
is_same (Asked.same q) = true
is_same a = false

-- the same, where this is what the pair asks for, and no other reader's node
abbrev pub BuildsAsked : List Node → List Node → ℕ → LeastTable → ErringTable → ℕ → ℕ → ℕ → Asked → Value → Type 0
BuildsAsked writer reader limit table erring left w r a v = is_same a ≡ false → a ≡ asked writer reader (node_at writer w) (node_at reader r)
    → BuildsError writer reader limit table erring left w r v

-- the least datum of a field, or that which errs where the field is chosen
pub record BuildsRow (writer reader : List Node) (limit : ℕ) (table : LeastTable) (erring : ErringTable) (left : ℕ) (chosen : Bool) (row : Row) (v : Value) : Type 0 where
  pub errs : chosen ≡ true → (q : ℕ) → row.theirs ≡ Some q → BuildsError writer reader limit table erring left row.node q v
  pub fits_in : chosen ≡ false → Builds writer table left row.node v

-- for each field, from an index on
abbrev pub BuildsRows : List Node → List Node → ℕ → LeastTable → ErringTable → ℕ → ℕ → ℕ → List Row → List Value → Type 0
BuildsRows writer reader limit table erring left k i [] [] = Unit {0}
BuildsRows writer reader limit table erring left k i (row ∷ rows) (v ∷ vs) =
    BuildsRow writer reader limit table erring left (i == k) row v × BuildsRows writer reader limit table erring left k (suc i) rows vs
BuildsRows writer reader limit table erring left k i _ _ = ⊥

-- the entry of a field, from its data that err or from all its data
abbrev pub part_of_row : LeastTable → ErringTable → Bool → Row → Option Least
part_of_row table erring chosen row = cond chosen (err_of_row erring row) (table row.node)

-- all fields, the chosen one's data that err beside the least data of the others
abbrev pub total_from : ℕ → LeastTable → ErringTable → ℕ → ℕ → List Row → Option Least
total_from limit table erring k i [] = Some no_parts
total_from limit table erring k i (row ∷ rows) = together limit (part_of_row table erring (i == k) row) (total_from limit table erring k (suc i) rows)
