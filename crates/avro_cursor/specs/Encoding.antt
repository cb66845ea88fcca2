-- The encodings of a datum, and the plain one (Avro 1.11, "Binary Encoding").
use Rattle.std.specs.Prelude.{◌≡◌, ℕ, zero, suc, pos, true, List, [], ◌∷◌, ◌++◌, length, if◌then◌else◌}
use Rattle.std.specs.List.{concat}
use Rattle.avro_zigzag.specs.Number.{SpellsInt, SpellsLong, number_bytes}
use Rattle.avro_schema.specs.Value.{Value, Values, Entries, no_values, value, no_entries, entry, values_count, entries_count}
use Rattle.avro_schema.specs.Node.{Node}
use Rattle.avro_schema.specs.Fits.{fits}
use Rattle.avro_cursor.specs.Blocks.{IsInBlocks}

-- a length, and that many bytes
abbrev pub SpellsBytes : List ℕ → List ℕ → Type 0
SpellsBytes content bytes = (count : List ℕ) × SpellsLong (pos (length content)) count × (bytes ≡ count ++ content)

-- The bytes spell the datum. An array or a map may be divided into blocks in many ways, and numbers may be padded, so
-- that one datum has many spellings.
abbrev mutual
  pub Spells : Value → List ℕ → Type 0
  Spells Value.null bytes = bytes ≡ []
  Spells (Value.boolean b) bytes = bytes ≡ (if b then 1 else 0) ∷ []
  Spells (Value.int i) bytes = SpellsInt i bytes
  Spells (Value.long i) bytes = SpellsLong i bytes
  Spells (Value.bytes b) bytes = SpellsBytes b bytes
  Spells (Value.string t) bytes = SpellsBytes t bytes
  Spells (Value.array vs) bytes = (items : List (List ℕ)) × EachSpelled vs items × IsInBlocks items bytes
  Spells (Value.map_of es) bytes = (items : List (List ℕ)) × EntriesSpelled es items × IsInBlocks items bytes
  Spells (Value.union k v) bytes =
      (index rest : List ℕ) × SpellsInt (pos k) index × Spells v rest × (bytes ≡ index ++ rest)
  Spells (Value.record_of vs) bytes = (items : List (List ℕ)) × EachSpelled vs items × (bytes ≡ concat items)
  Spells (Value.enum k) bytes = SpellsInt (pos k) bytes
  Spells (Value.fixed b) bytes = bytes ≡ b

  -- the bytes of each of several values
  pub EachSpelled : Values → List (List ℕ) → Type 0
  EachSpelled no_values items = items ≡ []
  EachSpelled (value v vs) items =
      (first : List ℕ) × (others : List (List ℕ)) × Spells v first × EachSpelled vs others × (items ≡ first ∷ others)

  -- the bytes of each of several entries: its key, as a string, and its value
  pub EntriesSpelled : Entries → List (List ℕ) → Type 0
  EntriesSpelled no_entries items = items ≡ []
  EntriesSpelled (entry k v es) items =
      (key first : List ℕ) × (others : List (List ℕ)) × SpellsBytes k key × Spells v first × EntriesSpelled es others
      × (items ≡ (key ++ first) ∷ others)

-- the bytes are an encoding of a datum, which fits the node
pub record Encodes (nodes : List Node) (n : Node) (v : Value) (bytes : List ℕ) : Type 0 where
  pub fitting : fits nodes n v ≡ true
  pub spelled : Spells v bytes

-- a length, and the bytes
abbrev pub plain_bytes : List ℕ → List ℕ
plain_bytes content = number_bytes (pos (length content)) ++ content

-- one block of all the items, where there are some, and the end
abbrev pub plain_blocks : ℕ → List ℕ → List ℕ
plain_blocks zero items = 0 ∷ []
plain_blocks (suc count) items = number_bytes (pos (suc count)) ++ items ++ 0 ∷ []

-- the plain encoding: one block of positive count for each array or map that isn't empty, and shortest numbers
abbrev mutual
  pub plain : Value → List ℕ
  plain Value.null = []
  plain (Value.boolean b) = (if b then 1 else 0) ∷ []
  plain (Value.int i) = number_bytes i
  plain (Value.long i) = number_bytes i
  plain (Value.bytes b) = plain_bytes b
  plain (Value.string t) = plain_bytes t
  plain (Value.array vs) = plain_blocks (values_count vs) (plain_values vs)
  plain (Value.map_of es) = plain_blocks (entries_count es) (plain_entries es)
  plain (Value.union k v) = number_bytes (pos k) ++ plain v
  plain (Value.record_of vs) = plain_values vs
  plain (Value.enum k) = number_bytes (pos k)
  plain (Value.fixed b) = b

  -- the plain encodings of several values
  pub plain_values : Values → List ℕ
  plain_values no_values = []
  plain_values (value v vs) = plain v ++ plain_values vs

  -- the plain encodings of several entries
  pub plain_entries : Entries → List ℕ
  plain_entries no_entries = []
  plain_entries (entry k v es) = plain_bytes k ++ plain v ++ plain_entries es
