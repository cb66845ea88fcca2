-- A text declares a schema by its tree.
use Rattle.std.specs.Prelude.{ℕ, List}
use Rattle.avro_schema.specs.Node.{Node}
use Rattle.serde_json.specs.Data.{Data}
use Rattle.avro_schema_json.specs.Declaration.{HasTree}
use Rattle.avro_schema_json.specs.DeclaredSchema.{DeclaresSchema}

-- the tree of a text declares this schema
abbrev pub DeclaresText : List ℕ → List Node → Type 0
DeclaresText text nodes = (tree : Data) × HasTree text tree × DeclaresSchema tree nodes
