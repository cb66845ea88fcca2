-- The names of the types of two schemas by number, and the tables by which the first branch that matches is found.
use Rattle.std.specs.Prelude.{◌≡◌, ℕ, ◌+◌, Bool, ◌&&◌, List, [], ◌∷◌, Option, Some, None, ◌==◌, bytes_eq, nat_eq, nat_le, cond, position, slice_get, unwrap_or}
use Rattle.std.specs.Option.{IfSome}
use Rattle.std.specs.List.{list_any}
use Rattle.std.specs.Ordering.{nat_cmp, ordering_then}
use Rattle.std.specs.declared.cmp.Ordering.{Ordering}
use Rattle.std.specs.BTreeMap.{BTreeMap, get}
use Rattle.indexmap.specs.IndexSet.{IndexSet, contains}
use Rattle.avro_name.specs.Name.{Name}
use Rattle.avro_schema.specs.Node.{Node, node_at, branches_of}
use Rattle.avro_schema.specs.Fits.{is_some_and}
use Rattle.avro_compare.specs.Match.{is_match}
use Rattle.avro_compare.specs.inside.NamedTypes.{NamedType, named_type, aliases_of}
use Rattle.avro_compare.specs.declared.type_names.TypeNames.{TypeNames}
use Rattle.avro_compare.specs.declared.type_names.UnionTable.{UnionTable}

-- ---- Numbers

abbrev pub is_number : ℕ → Option ℕ → Bool
is_number k found = is_some_and (λ j. j == k) found

-- the text of a number
abbrev pub is_text : List (List ℕ) → ℕ → List ℕ → Bool
is_text texts i text = is_some_and (λ u. bytes_eq u text) (slice_get texts i)

-- two numbers, and their order
abbrev pub NameKey : Type 0
NameKey = ℕ × ℕ

abbrev pub key_cmp : NameKey → NameKey → Ordering
key_cmp a b = ordering_then (nat_cmp a.0 b.0) (nat_cmp a.1 b.1)

-- the fullname of two numbers
abbrev pub is_name : List (List ℕ) → NameKey → Name → Bool
is_name texts key name = is_text texts key.0 name.simple && is_text texts key.1 name.namespace

-- these are the numbers of the name of a type
pub record IsNamed (texts : List (List ℕ)) (t : Option NamedType) (key : NameKey) : Type 0 where
  pub type : NamedType
  pub is : t ≡ Some type
  pub simple : slice_get texts key.0 ≡ Some type.name.simple
  pub space : slice_get texts key.1 ≡ Some type.name.namespace

abbrev pub IsFull : List (List ℕ) → Option NamedType → Option NameKey → Type 0
IsFull texts t found = IfSome found (IsNamed texts t)

-- each has the numbers of the name of the writer's node at its index
abbrev pub AreOfWriter : List (List ℕ) → List Node → List (Option NameKey) → Type 0
AreOfWriter texts writer numbers = (k : ℕ) (found : Option NameKey) → slice_get numbers k ≡ Some found → IsFull texts (named_type (node_at writer k)) found

-- a type has the simple name of a number
abbrev pub has_own : List (List ℕ) → ℕ → Option NamedType → Bool
has_own texts i t = is_some_and (λ u. is_text texts i u.name.simple) t

-- this is the number of the simple name of a type, or it has none
abbrev pub IsSimple : List (List ℕ) → Option NamedType → Option ℕ → Type 0
IsSimple texts t found = (i : ℕ) → is_number i found ≡ has_own texts i t

-- each is so of the reader's node at its index
abbrev pub AreOfReader : List (List ℕ) → List Node → List (Option ℕ) → Type 0
AreOfReader texts reader numbers = (k : ℕ) (found : Option ℕ) → slice_get numbers k ≡ Some found → IsSimple texts (named_type (node_at reader k)) found

-- ---- Aliases

abbrev pub has_alias : List (List ℕ) → NameKey → List Name → Bool
has_alias texts key names = list_any (is_name texts key) names

-- a node is in the set of an alias
module _ {S : Type 0} where
  abbrev pub holds : BTreeMap NameKey (IndexSet ℕ S) → NameKey → ℕ → Bool
  holds sets key b = is_some_and (λ set. contains nat_eq set b) (get key_cmp sets key)

  -- the set of each alias has the nodes of the types that have it, and no other
  abbrev pub HoldsAliases : List (List ℕ) → List Node → BTreeMap NameKey (IndexSet ℕ S) → Type 0
  HoldsAliases texts reader sets = (key : NameKey) (b : ℕ) → holds sets key b ≡ has_alias texts key (aliases_of (named_type (node_at reader b)))

-- ---- Branches

-- the branches of a node, and none where it has none
abbrev pub branches_at : Node → List ℕ
branches_at n = unwrap_or (branches_of n) []

-- the node of an id is such a type
abbrev pub passes : List Node → (NamedType → Bool) → ℕ → Bool
passes reader test id = is_some_and test (named_type (node_at reader id))

-- a type is of this kind and has the simple name of a number
abbrev pub is_own : List (List ℕ) → ℕ → ℕ → NamedType → Bool
is_own texts kind k t = t.kind == kind && is_text texts k t.name.simple

-- a map finds the first branch of each kind and number of a simple name, and no other
abbrev pub FindsFirst : List (List ℕ) → List Node → List ℕ → BTreeMap NameKey ℕ → Type 0
FindsFirst texts reader ids firsts = (key : NameKey) → get key_cmp firsts key ≡ position (passes reader (is_own texts key.0 key.1)) ids

-- a map finds the first index of each branch, and no other
abbrev pub FindsPlaces : List ℕ → BTreeMap ℕ ℕ → Type 0
FindsPlaces ids places = (b : ℕ) → get nat_cmp places b ≡ position (λ c. c == b) ids

abbrev pub IsUnionTable : List (List ℕ) → List Node → Node → UnionTable → Type 0
IsUnionTable texts reader n table = FindsFirst texts reader (branches_at n) table.firsts × FindsPlaces (branches_at n) table.places

-- each is the table of the reader's node at its index
abbrev pub AreUnionTables : List (List ℕ) → List Node → List UnionTable → Type 0
AreUnionTables texts reader tables = (k : ℕ) (table : UnionTable) → slice_get tables k ≡ Some table → IsUnionTable texts reader (node_at reader k) table

-- the lesser of two indices, if there is one
abbrev pub least : Option ℕ → Option ℕ → Option ℕ
least None b = b
least (Some i) None = Some i
least (Some i) (Some j) = Some (cond (nat_le i j) i j)

-- the first index of a node, if it matches
abbrev pub place_in : List Node → List Node → Node → BTreeMap ℕ ℕ → ℕ → Option ℕ
place_in writer reader w places id = cond (is_match writer reader w (node_at reader id)) (get nat_cmp places id) None

-- the least of an index and those of some nodes
abbrev pub listed : List Node → List Node → Node → BTreeMap ℕ ℕ → Option ℕ → List ℕ → Option ℕ
listed writer reader w places first [] = first
listed writer reader w places first (id ∷ ids) = listed writer reader w places (least first (place_in writer reader w places id)) ids

-- ---- All of them

pub record AreTypeNames (writer reader : List Node) (names : TypeNames) : Type 0 where
  pub writes : AreOfWriter names.texts writer names.writes.items
  pub reads : AreOfReader names.texts reader names.reads.items
  pub aliases : HoldsAliases names.texts reader names.aliases
  pub unions : AreUnionTables names.texts reader names.unions.items
