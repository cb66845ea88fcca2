-- How the ids of names are looked up: by the number of their namespace, and their simple part.
use Rattle.std.specs.Prelude.{◌<◌, ℕ, List, [], map, length, Option, String, string_bytes, bytes_eq, position, slice_index_or}
use Rattle.std.specs.List.{IsDistinct, AllByRecursion}
use Rattle.std.specs.declared.alloc.Global.{Global}
use Rattle.indexmap.specs.IndexMap.{IndexMap}
use Rattle.indexmap.specs.IndexSet.{IndexSet}
use Rattle.avro_name.specs.Name.{Name}
use Rattle.avro_schema_json.specs.Declares.{Known}

-- a number and a simple part
abbrev pub Key : Type 0
Key = ℕ × String Global

module _ {S : Type 0} where
  -- the number of a namespace: its place
  abbrev pub number_of : IndexSet (List ℕ) S → List ℕ → Option ℕ
  number_of numbers namespace = position (bytes_eq namespace) numbers.keys

-- the name of a key
abbrev pub name_at : List (List ℕ) → Key → Name
name_at spaces key = record { namespace = slice_index_or spaces key.0 []; simple = string_bytes key.1 }

-- the names of some keys, with their ids
abbrev pub known_in : List (List ℕ) → List (Key × ℕ) → Known
known_in spaces entries = map (λ (e : Key × ℕ). (name_at spaces e.0, e.1)) entries

-- each key has the number of a namespace
abbrev pub AreWithin : ℕ → List (Key × ℕ) → Type 0
AreWithin count entries = AllByRecursion (λ (e : Key × ℕ). e.0.0 < count) entries

-- no two namespaces are the same, and each key has the number of one
pub record AreNumbered {S : Type 0} (numbers : IndexSet (List ℕ) S) (ids : IndexMap Key ℕ S) : Type 0 where
  pub distinct : IsDistinct bytes_eq numbers.keys
  pub within : AreWithin (length numbers.keys) ids.entries
