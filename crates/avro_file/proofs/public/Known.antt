-- What the laws of other crates say, as these proofs are handed it.
use Rattle.std.proofs.Common.{◌≡◌, ℕ, List, ◌++◌}
use Rattle.serde_json.specs.Data.{Data}
use Rattle.avro_schema.specs.Value.{Value}
use Rattle.avro_schema.specs.Node.{Node}
use Rattle.avro_schema_json.specs.DeclaredSchema.{DeclaresSchema}
use Rattle.avro_cursor.specs.Encoding.{Encodes}

abbrev pub Prefix : Type 0
Prefix = (nodes : List Node) (n : Node) (v w : Value) (a b x y : List ℕ) → Encodes nodes n v a → Encodes nodes n w b → a ++ x ≡ b ++ y → (a ≡ b) × (v ≡ w)

abbrev pub OneSchema : Type 0
OneSchema = (tree : Data) (a b : List Node) → DeclaresSchema tree a → DeclaresSchema tree b → a ≡ b
