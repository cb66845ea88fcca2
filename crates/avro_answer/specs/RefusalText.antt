-- Why the texts of schemas and certificates are refused, and the line that reports it.
use Rattle.std.specs.Prelude.{◌≡◌, ℕ, ◌<◌, ◌≤◌, ◌⊎◌, List, ◌++◌, length, codes}
use Rattle.avro_schema.specs.Node.{Node}
use Rattle.serde_json.specs.Data.{Data}
use Rattle.avro_schema_json.specs.Declaration.{max_text, HasTree, IsNoJson}
use Rattle.avro_schema_json.specs.DeclaredFaults.{HasFault}
use Rattle.avro_schema_json.specs.declared.error.SchemaError.{SchemaError}
use Rattle.avro_answer.specs.ReadText.{IsReadAs}
use Rattle.avro_answer.specs.declared.refusal.Refusal.{Refusal}

-- the line of a refused text, by the word that names its file
abbrev pub refusal_text : List ℕ → List ℕ → List ℕ
refusal_text word code = codes "avro: " ++ word ++ codes ": " ++ code ++ codes "\n"

-- The code is one that the text has: S12 if it is too long, whatever it holds; otherwise that it is not JSON, or a
-- fault of its tree.
abbrev pub HasCode : List ℕ → SchemaError → Type 0
HasCode text e =
    ((max_text < length text) × (e ≡ SchemaError.LimitExceeded))
    ⊎ ((length text ≤ max_text) × (e ≡ SchemaError.NotJson) × IsNoJson text)
    ⊎ ((length text ≤ max_text) × (tree : Data) × HasTree text tree × HasFault tree e)

-- the text is not too long, and declares a schema
abbrev pub HasSchema : List ℕ → Type 0
HasSchema text = (nodes : List Node) × IsReadAs text nodes

-- each of two texts is not too long, and declares a schema
abbrev pub HaveSchemas : List ℕ → List ℕ → Type 0
HaveSchemas writer reader = HasSchema writer × HasSchema reader

-- What a refusal says of the text of one schema: it has this code. Memory that runs out says nothing.
abbrev pub RefusesOne : List ℕ → Refusal → Type 0
RefusesOne text (Refusal.Writer e) = HasCode text e
RefusesOne text (Refusal.Reader e) = ⊥
RefusesOne text (Refusal.Certificate e) = ⊥
RefusesOne text Refusal.OutOfMemory = Unit {0}

-- What a refusal says of the texts of two schemas: the writer's is refused, or it declares a schema and the reader's is
-- refused. Memory that runs out says nothing.
abbrev pub RefusesPair : List ℕ → List ℕ → Refusal → Type 0
RefusesPair writer reader (Refusal.Writer e) = HasCode writer e
RefusesPair writer reader (Refusal.Reader e) = HasSchema writer × HasCode reader e
RefusesPair writer reader (Refusal.Certificate e) = ⊥
RefusesPair writer reader Refusal.OutOfMemory = Unit {0}
