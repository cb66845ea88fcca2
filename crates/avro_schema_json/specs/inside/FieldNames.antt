-- The names of fields, as they are looked up.
use Rattle.std.specs.Prelude.{◌≡◌, ℕ, List, bytes_eq, is_some}
use Rattle.std.specs.List.{list_any}
use Rattle.indexmap.specs.IndexMap.{IndexMap, get_by}
use denote.Ref.{Bor}
use Rattle.avro_texts.specs.declared.seeded.Seeded.{Seeded}
use Rattle.avro_schema.specs.Node.{FieldNode}

-- a text is a key exactly where it is the name of a field
abbrev pub HasNames : IndexMap (Bor (List ℕ)) (Unit {0}) Seeded → List FieldNode → Type 0
HasNames names fields = (name : List ℕ) → is_some (get_by (λ k. bytes_eq name k.now) names) ≡ list_any (λ f. bytes_eq name f.name) fields
