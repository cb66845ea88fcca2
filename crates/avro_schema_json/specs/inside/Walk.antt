-- What is known as the default of JSON is read from the root down, by sets.
use Rattle.std.specs.Prelude.{◌≡◌, ℕ, ◌<◌, false, List, slice_get, Option, Some, None, unwrap_or, bytes_eq}
use Rattle.std.specs.BTreeMap.{BTreeMap, get}
use Rattle.indexmap.specs.IndexMap.{IndexMap, get_by}
use denote.Ref.{Bor}
use Rattle.avro_texts.specs.declared.seeded.Seeded.{Seeded}
use Rattle.avro_schema.specs.Node.{Node, node_at, branches_of}
use Rattle.serde_json.specs.Data.{Data, Members}
use Rattle.serde_json.specs.Find.{get_member}
use Rattle.avro_schema_json.specs.inside.Covers.{place_of}
use Rattle.avro_schema_json.specs.inside.Kinds.{pair_cmp}
use Rattle.avro_schema_json.specs.inside.Marks.{IsMarked}
use Rattle.avro_schema_json.specs.inside.OwnDefaults.{own_default, all_without_defaults}
use Rattle.avro_schema_json.specs.inside.Rows.{has_place}
use Rattle.avro_schema_json.specs.inside.Sets.{row_at}
use Rattle.avro_schema_json.specs.declared.defaults.parts.Mark.{Mark}
use Rattle.avro_schema_json.specs.declared.defaults.walk.Walk.{Walk}

-- the nodes of the schema
abbrev pub nodes_of : Walk → List Node
nodes_of walk = all_without_defaults walk.raws.now

-- a mark is that of JSON, or there is none
abbrev pub IsKnown : Walk → Data → Option Mark → Type 0
IsKnown walk d None = Unit
IsKnown walk d (Some m) = IsMarked (nodes_of walk) walk.last walk.marks.now d m

-- the marks of the members of an object, by their keys
abbrev pub mark_of : IndexMap (Bor (List ℕ)) (Option Mark) Seeded → List ℕ → Option Mark
mark_of marks key = unwrap_or (get_by (λ k. bytes_eq key k.now) marks) None

abbrev pub AreMemberMarks : Walk → Members → IndexMap (Bor (List ℕ)) (Option Mark) Seeded → Type 0
AreMemberMarks walk ms marks = (key : List ℕ) (e : Data) → get_member key ms ≡ Some e → IsKnown walk e (mark_of marks key)

-- the JSON is not a default of a branch before an index
abbrev pub FitsNoneBefore : List Node → Data → List ℕ → ℕ → Type 0
FitsNoneBefore nodes d ids to = (j id : ℕ) → j < to → slice_get ids j ≡ Some id → own_default nodes d (node_at nodes id) ≡ None

-- a set has none of the branches before an index
abbrev pub HasNoneBefore : ℕ → List ℕ → List ℕ → ℕ → Type 0
HasNoneBefore last row ids to = (j id : ℕ) → j < to → slice_get ids j ≡ Some id → has_place row (place_of last id) ≡ false

-- the first branch of a union that may be in a set, as it was found before
abbrev pub first_of : BTreeMap (ℕ × ℕ) ℕ → ℕ → ℕ → Option ℕ
first_of firsts union set = get pair_cmp firsts (union, set)

-- what was found before is so
abbrev pub AreFirsts : Walk → BTreeMap (ℕ × ℕ) ℕ → Type 0
AreFirsts walk firsts =
    (union set first : ℕ) (ids row : List ℕ) → first_of firsts union set ≡ Some first → branches_of (node_at (nodes_of walk) union) ≡ Some ids
    → row_at walk.marks.now.memo.sets set ≡ Some row → HasNoneBefore walk.last row ids first
