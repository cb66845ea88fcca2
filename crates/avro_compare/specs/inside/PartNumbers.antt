-- Names of fields and of symbols by number: equal numbers are equal names.
use Rattle.std.specs.Prelude.{◌≡◌, ◌==◌, ◌&&◌, ℕ, Bool, List, [], ◌∷◌, Option, None, Some, length, map, slice_get, unwrap_or, option_map, position}
use Rattle.std.specs.Global.{Vec}
use Rattle.indexmap.specs.IndexMap.{IndexMap, get}
use Rattle.avro_texts.specs.Texts.{AreDistinct, KeepsNumbers}
use Rattle.avro_texts.specs.declared.seeded.Seeded.{Seeded}
use Rattle.avro_schema.specs.Node.{Node, FieldNode, node_at}
use Rattle.avro_compare.specs.Resolve.{fields_at}
use Rattle.avro_compare.specs.Source.{or_else}
use Rattle.avro_compare.specs.inside.NameTables.{symbols_at}
use Rattle.avro_compare.specs.declared.part_numbers.FieldNumbers.{FieldNumbers}
use Rattle.avro_compare.specs.declared.part_numbers.NodeParts.{NodeParts}
use Rattle.avro_compare.specs.declared.part_numbers.PartNumbers.{PartNumbers}
use Rattle.avro_compare.specs.declared.part_numbers.SymbolNumbers.{SymbolNumbers}
use Rattle.avro_compare.specs.declared.place.Place.{Place}

-- the names of some fields, and the aliases of the one at an index
abbrev pub names_of : List FieldNode → List (List ℕ)
names_of fields = map (λ (f : FieldNode). f.name) fields

abbrev pub aliases_at : List FieldNode → ℕ → List (List ℕ)
aliases_at fields k = unwrap_or (option_map (λ (f : FieldNode). f.aliases) (slice_get fields k)) []

-- texts are added
pub record Grows (before after : List (List ℕ)) : Type 0 where
  pub kept : KeepsNumbers before after
  pub distinct : AreDistinct before → AreDistinct after

-- lists of numbers are added
abbrev pub Lists : Type 0
Lists = List (Vec ℕ)

abbrev pub KeepsLists : Lists → Lists → Type 0
KeepsLists before after = (i : ℕ) (list : Vec ℕ) → slice_get before i ≡ Some list → slice_get after i ≡ Some list

-- the numbers of some names, in their order
abbrev pub AreNumbersOf : List (List ℕ) → List (List ℕ) → List ℕ → Type 0
AreNumbersOf texts names numbers =
    ((k n : ℕ) → slice_get numbers k ≡ Some n → (t : List ℕ) → slice_get names k ≡ Some t → slice_get texts n ≡ Some t) × (length numbers ≡ length names)

-- the list at an index has the numbers of some names
pub record HasList (texts : List (List ℕ)) (lists : Lists) (index : ℕ) (names : List (List ℕ)) : Type 0 where
  pub list : Vec ℕ
  pub there : slice_get lists index ≡ Some list
  pub are : AreNumbersOf texts names list.items

-- the same, where no names have no list
abbrev pub HasOwn : List (List ℕ) → Lists → Option ℕ → List (List ℕ) → Type 0
HasOwn texts lists None names = names ≡ []
HasOwn texts lists (Some index) names = HasList texts lists index names

-- each is the index of a list of the names at its own index
abbrev pub AreLists : List (List ℕ) → Lists → (ℕ → List (List ℕ)) → List (Option ℕ) → Type 0
AreLists texts lists names ids = (k : ℕ) (id : Option ℕ) → slice_get ids k ≡ Some id → HasOwn texts lists id (names k)

-- the lists of a node's fields and of its symbols
abbrev pub HasParts : List (List ℕ) → Lists → Lists → Node → NodeParts → Type 0
HasParts texts for_fields for_symbols n parts = HasOwn texts for_fields parts.fields (names_of (fields_at n)) × HasOwn texts for_symbols parts.symbols (symbols_at n)

abbrev pub AreParts : List (List ℕ) → Lists → Lists → List Node → List NodeParts → Type 0
AreParts texts for_fields for_symbols nodes all = (k : ℕ) (parts : NodeParts) → slice_get all k ≡ Some parts → HasParts texts for_fields for_symbols (node_at nodes k) parts

-- the lists of the aliases of the fields of each node
abbrev pub AreAliases : List (List ℕ) → Lists → List Node → List (Vec (Option ℕ)) → Type 0
AreAliases texts lists nodes all = (k : ℕ) (ids : Vec (Option ℕ)) → slice_get all k ≡ Some ids → AreLists texts lists (aliases_at (fields_at (node_at nodes k))) ids.items

-- all lists of two schemas
pub record ArePartLists (writer reader : List Node) (numbers : PartNumbers) : Type 0 where
  pub distinct : AreDistinct numbers.texts
  pub writes : AreParts numbers.texts numbers.tabled.items numbers.plain.items writer numbers.writes.items
  pub reads : AreParts numbers.texts numbers.plain.items numbers.tabled.items reader numbers.reads.items
  pub aliases : AreAliases numbers.texts numbers.tabled.items reader numbers.aliases.items

-- ---- Where a number is in a list

abbrev pub same_place : Place → Place → Bool
same_place a b = a.list == b.list && a.number == b.number

abbrev pub Places : Type 0
Places = IndexMap Place ℕ Seeded

abbrev pub first_of : List ℕ → ℕ → Option ℕ
first_of numbers n = position (λ k. k == n) numbers

-- the first index of each number of a list, and no other
abbrev pub FindsIn : Places → ℕ → List ℕ → Type 0
FindsIn places id numbers = (n : ℕ) → get same_place places (record { list = id; number = n }) ≡ first_of numbers n

-- the same of each list
abbrev pub FindsAll : Places → Lists → Type 0
FindsAll places lists = (id : ℕ) (list : Vec ℕ) → slice_get lists id ≡ Some list → FindsIn places id list.items

-- the first of some numbers that a list has
abbrev pub first_number : List ℕ → List ℕ → Option ℕ
first_number numbers [] = None
first_number numbers (n ∷ ns) = or_else (first_of numbers n) (first_number numbers ns)

-- the names of two schemas by number, with their places
pub record ArePartNumbers (writer reader : List Node) (numbers : PartNumbers) : Type 0 where
  pub lists : ArePartLists writer reader numbers
  pub places : FindsAll numbers.places numbers.tabled.items

-- no text has two numbers, and each list that is searched has its places
abbrev pub IsTabled : PartNumbers → Type 0
IsTabled numbers = AreDistinct numbers.texts × FindsAll numbers.places numbers.tabled.items

-- ---- What is found of a pair

-- what is at an index of a list
pub record IsItemAt {T : Type 0} (lists : List (Vec T)) (id index : ℕ) (item : T) : Type 0 where
  pub list : Vec T
  pub there : slice_get lists id ≡ Some list
  pub is : slice_get list.items index ≡ Some item

-- the numbers of a writer's fields and of a reader's field
pub record HasField (numbers : PartNumbers) (writes : List FieldNode) (field : FieldNode) (found : FieldNumbers) : Type 0 where
  pub fields : HasList numbers.texts numbers.tabled.items found.fields (names_of writes)
  pub name : slice_get numbers.texts found.name ≡ Some field.name
  pub aliases : HasOwn numbers.texts numbers.tabled.items found.aliases field.aliases

-- the numbers of a reader's symbols and of a symbol
pub record HasSymbol (numbers : PartNumbers) (reads : List (List ℕ)) (text : List ℕ) (found : SymbolNumbers) : Type 0 where
  pub symbols : HasList numbers.texts numbers.tabled.items found.symbols reads
  pub symbol : slice_get numbers.texts found.symbol ≡ Some text
