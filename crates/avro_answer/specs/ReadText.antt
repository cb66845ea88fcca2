-- What the text of a schema is read as.
use Rattle.std.specs.Prelude.{ℕ, ◌≤◌, List, length}
use Rattle.avro_schema.specs.Node.{Node}
use Rattle.avro_schema_json.specs.Declaration.{max_text}
use Rattle.avro_schema_json.specs.DeclaredText.{DeclaresText}

-- the text is not too long, and declares these nodes
abbrev pub IsReadAs : List ℕ → List Node → Type 0
IsReadAs text nodes = (length text ≤ max_text) × DeclaresText text nodes
