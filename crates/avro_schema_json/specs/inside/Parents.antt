-- Under which labels a node is a part of which nodes, its parents.
use Rattle.std.specs.Prelude.{◌≡◌, ℕ, ◌/◌, ◌%◌, true, List, slice_get, Option, Some, None, unwrap_or, bytes_eq, Contains}
use Rattle.std.specs.Global.{Vec}
use Rattle.std.specs.Int.{bit_at}
use Rattle.std.specs.Ordering.{nat_cmp}
use Rattle.std.specs.BTreeMap.{BTreeMap, get}
use Rattle.indexmap.specs.IndexMap.{IndexMap, get_by}
use denote.Ref.{Bor}
use Rattle.avro_texts.specs.declared.seeded.Seeded.{Seeded}
use Rattle.avro_schema.specs.Node.{Node, FieldNode, node_at, items_node, values_node}
use Rattle.avro_schema_json.specs.inside.Rows.{has_place}
use Rattle.avro_schema_json.specs.inside.Covers.{place_of, own_ids}
use Rattle.avro_schema_json.specs.declared.defaults.parents.Places.{Places}
use Rattle.avro_schema_json.specs.declared.defaults.parents.RowWord.{RowWord}

-- how a part is in what holds it
pub data Label : Type 0 where
  items : Label
  values : Label
  named : List ℕ → Label

-- a field of a name and a node
pub record HasField (fields : List FieldNode) (name : List ℕ) (t : ℕ) : Type 0 where
  pub field : FieldNode
  pub at : ℕ
  pub there : slice_get fields at ≡ Some field
  pub named_so : field.name ≡ name
  pub node_is : field.node ≡ t

-- the node of an id is the part of a node under a label
abbrev pub IsPart : Label → Node → ℕ → Type 0
IsPart Label.items n t = items_node n ≡ Some t
IsPart Label.values n t = values_node n ≡ Some t
IsPart (Label.named name) (Node.record_of rname aliases fields) t = HasField fields name t
IsPart (Label.named name) _ t = ⊥

-- the nodes under a label of what is in a row
abbrev pub IsStep : List Node → ℕ → Label → List ℕ → List ℕ → Type 0
IsStep nodes last label row parents =
    (x t y : ℕ) → IsPart label (node_at nodes x) t → Contains (own_ids nodes t) y → has_place row (place_of last y) ≡ true
    → has_place parents (place_of last x) ≡ true

-- one of some words of a row has the bit of a place
unfoldable pub has_bit : List RowWord → ℕ → Type 0
has_bit words p = (at : ℕ) × (word : RowWord) × (slice_get words at ≡ Some word) × (word.index ≡ p / 64) × (bit_at word.bits (p % 64) ≡ 1)

-- one of some places has the bit of one of 64, and the bit of a parent
unfoldable pub has_parent : List Places → ℕ → ℕ → Type 0
has_parent all i p = (at : ℕ) × (places : Places) × (slice_get all at ≡ Some places) × (bit_at places.mask i ≡ 1) × has_bit places.parents.items p

abbrev pub has_parent_in : Option (Vec Places) → ℕ → ℕ → Type 0
has_parent_in None i p = ⊥
has_parent_in (Some all) i p = has_parent all.items i p

-- the parents of each place under one label, and those under each, by the number of the label
abbrev pub Under : Type 0
Under = BTreeMap ℕ (Vec Places)

abbrev pub Parents : Type 0
Parents = BTreeMap ℕ Under

-- a place is a parent of another
abbrev pub has_parent_under : Under → ℕ → ℕ → Type 0
has_parent_under under place p = has_parent_in (get nat_cmp under (place / 64)) (place % 64) p

abbrev pub has_parent_at : Option Under → ℕ → ℕ → Type 0
has_parent_at None place p = ⊥
has_parent_at (Some under) place p = has_parent_under under place p

abbrev pub has_parent_of : Parents → ℕ → ℕ → ℕ → Type 0
has_parent_of parents place number p = has_parent_at (get nat_cmp parents number) place p

-- words with numbers, and the number of the label of a name
abbrev pub Numbered : Type 0
Numbered = IndexMap (Bor (List ℕ)) ℕ Seeded

abbrev pub label_of : Numbered → List ℕ → Option ℕ
label_of labels name = get_by (λ k. bytes_eq name k.now) labels

abbrev pub number_of : Numbered → Label → Option ℕ
number_of labels Label.items = Some 0
number_of labels Label.values = Some 1
number_of labels (Label.named name) = label_of labels name

-- that of the name of a field, or of the values of maps where there is none
abbrev pub label_or_values : Numbered → List ℕ → ℕ
label_or_values labels name = unwrap_or (label_of labels name) 1

-- a place is a parent of another under a label
abbrev pub HasParent : Numbered → Parents → Label → ℕ → ℕ → Type 0
HasParent labels parents label part parent = (number : ℕ) × (number_of labels label ≡ Some number) × has_parent_of parents part number parent

-- a place is a parent of some nodes
abbrev pub HasParts : ℕ → List ℕ → Parents → ℕ → ℕ → Type 0
HasParts last ids parents number parent = (y : ℕ) → Contains ids y → has_parent_of parents (place_of last y) number parent

-- a record is a parent of the nodes of a field, and of each field
abbrev pub IsField : List Node → ℕ → Numbered → Parents → FieldNode → ℕ → Type 0
IsField nodes last labels parents f parent =
    (number : ℕ) × (label_of labels f.name ≡ Some number) × HasParts last (own_ids nodes f.node) parents number parent

abbrev pub AreFields : List Node → ℕ → Numbered → Parents → List FieldNode → ℕ → Type 0
AreFields nodes last labels parents fields parent = (k : ℕ) (f : FieldNode) → slice_get fields k ≡ Some f → IsField nodes last labels parents f parent

-- a node is a parent of its parts, and each node of its own
abbrev pub IsParent : List Node → ℕ → Numbered → Parents → Node → ℕ → Type 0
IsParent nodes last labels parents n parent =
    (label : Label) (t y : ℕ) → IsPart label n t → Contains (own_ids nodes t) y → HasParent labels parents label (place_of last y) parent

abbrev pub AreParents : List Node → ℕ → Numbered → Parents → Type 0
AreParents nodes last labels parents = (x : ℕ) → IsParent nodes last labels parents (node_at nodes x) (place_of last x)

-- what was there is there
abbrev pub KeepsPlaces : List Places → List Places → Type 0
KeepsPlaces before after = (i parent : ℕ) → has_parent before i parent → has_parent after i parent

abbrev pub KeepsUnder : Under → Under → Type 0
KeepsUnder before after = (part parent : ℕ) → has_parent_under before part parent → has_parent_under after part parent

abbrev pub KeepsParents : Parents → Parents → Type 0
KeepsParents before after = (part number parent : ℕ) → has_parent_of before part number parent → has_parent_of after part number parent

abbrev pub KeepsLabels : Numbered → Numbered → Type 0
KeepsLabels before after = (name : List ℕ) (number : ℕ) → label_of before name ≡ Some number → label_of after name ≡ Some number
