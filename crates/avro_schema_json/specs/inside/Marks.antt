-- The sets of nodes that JSON and its parts are defaults of, as they are kept for the walk down.
use Rattle.std.specs.Prelude.{◌≡◌, ℕ, zero, suc, ◌+◌, ◌<◌, ◌≤◌, List, length, slice_get, Option, Some, None}
use Rattle.avro_schema.specs.Node.{Node}
use Rattle.serde_json.specs.Data.{Data, Members, no_members, member}
use Rattle.serde_json.specs.Find.{get_item, get_member}
use Rattle.avro_schema_json.specs.inside.Covers.{Covers}
use Rattle.avro_schema_json.specs.inside.Parents.{Numbered, label_or_values}
use Rattle.avro_schema_json.specs.inside.Sets.{row_at, KeepsRows}
use Rattle.avro_schema_json.specs.declared.defaults.parts.Mark.{Mark}
use Rattle.avro_schema_json.specs.declared.defaults.parts.Marks.{Marks}
use Rattle.avro_schema_json.specs.declared.defaults.sets.Sets.{Sets}

-- the part of JSON at an index: an item, or a member in the order of keys
abbrev pub member_at : ℕ → Members → Option Data
member_at k no_members = None
member_at zero (member key d ms) = Some d
member_at (suc k) (member key d ms) = member_at k ms

abbrev pub part_at : ℕ → Data → Option Data
part_at k (Data.array ds) = get_item k ds
part_at k (Data.object ms) = member_at k ms
part_at k _ = None

-- JSON is a part of an array or of an object, whose label has this number
abbrev pub IsPartUnder : Numbered → ℕ → Data → Data → Type 0
IsPartUnder labels number (Data.array ds) e = (j : ℕ) × (number ≡ 0) × (get_item j ds ≡ Some e)
IsPartUnder labels number (Data.object ms) e = (key : List ℕ) × (number ≡ label_or_values labels key) × (get_member key ms ≡ Some e)
IsPartUnder labels number _ e = ⊥

-- the set of a number has each node that the JSON is a default of itself
abbrev pub IsSetOf : List Node → ℕ → Sets → Data → ℕ → Type 0
IsSetOf nodes last sets d s = (row : List ℕ) × (row_at sets s ≡ Some row) × Covers nodes last d row

-- a mark says what holds of JSON, and leads to marks of its parts that do so too
pub data IsMarked (nodes : List Node) (last : ℕ) (marks : Marks) : Data → Mark → Type 0 where
  marked : {d : Data} {m : Mark} → IsSetOf nodes last marks.memo.sets d m.set → m.parts + m.count ≤ length marks.all.items
      → ((j : ℕ) (e : Data) (p : Mark) → j < m.count → part_at j d ≡ Some e → slice_get marks.all.items (m.parts + j) ≡ Some p → IsMarked nodes last marks e p)
      → IsMarked nodes last marks d m

-- what was kept before is kept after
pub record Stays (before after : Marks) : Type 0 where
  pub rows : KeepsRows before.memo.sets after.memo.sets
  pub longer : length before.all.items ≤ length after.all.items
  pub marks : (i : ℕ) → i < length before.all.items → slice_get after.all.items i ≡ slice_get before.all.items i

-- each of some marks is that of the part at its index
abbrev pub ArePartsMarked : List Node → ℕ → Marks → Data → List Mark → Type 0
ArePartsMarked nodes last marks d ps = (j : ℕ) (e : Data) (p : Mark) → part_at j d ≡ Some e → slice_get ps j ≡ Some p → IsMarked nodes last marks e p
