-- What a part is that was opened, by the JSON that it is displayed as.
use Rattle.std.specs.Prelude.{◌≡◌, ℕ, zero, suc, ◌<◌, ◌≤◌, List, ◌∷◌, [], ◌++◌, length, encode_utf8_all, slice_get, Option, Some, None}
use Rattle.std.specs.List.{AllByRecursion}
use Rattle.serde_json.specs.Data.{Data, Items, no_items, item, no_members}
use Rattle.serde_json.specs.Find.{of_integer}
use Rattle.serde_json.specs.Written.{compact_text}
use Rattle.avro_display.specs.Order.{put_each}
use Rattle.avro_display.specs.declared.member.Member.{Member}
use Rattle.avro_display.specs.declared.displayed.Opened.{Opened}

-- the number of items
abbrev pub items_count : Items → ℕ
items_count no_items = 0
items_count (item d ds) = suc (items_count ds)

-- the item at an index
abbrev pub item_at : Items → ℕ → Data
item_at no_items index = Data.null
item_at (item d ds) zero = d
item_at (item d ds) (suc index) = item_at ds index

-- a part is there, and this JSON
abbrev pub IsShown : {P : Type 0} → (P → Data → Type 0) → Option P → Data → Type 0
IsShown shows (Some p) d = shows p d
IsShown shows None d = ⊥

-- the items of an array, by their indices
abbrev pub ItemsAre : {P : Type 0} → (P → ℕ → Data → Type 0) → P → ℕ → Items → Type 0
ItemsAre shows p n ds = (items_count ds ≡ n) × ((i : ℕ) → i < n → shows p i (item_at ds i))

-- the entries of an object, by their indices
abbrev pub EntriesAre : {P : Type 0} → (P → ℕ → List ℕ → Data → Type 0) → P → ℕ → List (List ℕ) → (ℕ → Data) → Type 0
EntriesAre shows p n keys tree = (length keys ≡ n) × ((i : ℕ) (k : List ℕ) → slice_get keys i ≡ Some k → shows p i k (tree i))

-- the text of the members of an object that are left, each value after the text before it
abbrev pub members_left : (ℕ → Data) → List Member → List ℕ
members_left tree [] = 125 ∷ []
members_left tree (m ∷ ms) = m.head.items ++ (compact_text (tree m.field) ++ members_left tree ms)

-- the text of an object
abbrev pub object_text : (ℕ → Data) → List Member → List ℕ
object_text tree [] = 123 ∷ 125 ∷ []
object_text tree (m ∷ ms) = members_left tree (m ∷ ms)

-- What a part is that was opened, by the JSON that it is displayed as; `shows` and the others say which JSON its parts
-- are displayed as.
abbrev pub Opens : {P : Type 0} → (P → Data → Type 0) → (P → ℕ → Data → Type 0) → (P → ℕ → List ℕ → Data → Type 0) → (P → Member → Data → Type 0) → Opened P → Data → Type 0
Opens shows item_is entry_is member_is Opened.Null d = d ≡ Data.null
Opens shows item_is entry_is member_is (Opened.Bool b) d = d ≡ Data.boolean b
Opens shows item_is entry_is member_is (Opened.Number i) d = d ≡ Data.number (of_integer i)
Opens shows item_is entry_is member_is (Opened.Bytes b) d = d ≡ Data.string (encode_utf8_all b.now)
Opens shows item_is entry_is member_is (Opened.Text t) d = d ≡ Data.string t.now
Opens shows item_is entry_is member_is (Opened.Branch opening p) d = (e : Data) × (compact_text d ≡ opening.now ++ (compact_text e ++ 125 ∷ [])) × shows p e
Opens shows item_is entry_is member_is (Opened.Items p n) d = (ds : Items) × (d ≡ Data.array ds) × ItemsAre item_is p n ds
Opens shows item_is entry_is member_is (Opened.Entries p n) d = (keys : List (List ℕ)) × (tree : ℕ → Data) × (d ≡ Data.object (put_each tree 0 keys no_members)) × EntriesAre entry_is p n keys tree
Opens shows item_is entry_is member_is (Opened.Members p ms) d = (tree : ℕ → Data) × (compact_text d ≡ object_text tree ms.now) × AllByRecursion (λ m. member_is p m (tree m.field)) ms.now

-- the parts of what was opened have fewer levels than that, and what leads to them has no more
abbrev pub AreBelow : {P : Type 0} → (P → ℕ) → ℕ → Opened P → Type 0
AreBelow levels most (Opened.Branch opening p) = levels p < most
AreBelow levels most (Opened.Items p n) = levels p ≤ most
AreBelow levels most (Opened.Entries p n) = levels p ≤ most
AreBelow levels most (Opened.Members p ms) = levels p ≤ most
AreBelow levels most o = Unit {0}

-- keys with the indices of entries that have them
abbrev pub AreOrdered : {P : Type 0} → (P → ℕ → List ℕ → Data → Type 0) → P → List (List ℕ × ℕ) → (ℕ → Data) → Type 0
AreOrdered shows p order tree = AllByRecursion (λ e. shows p e.1 e.0 (tree e.1)) order
