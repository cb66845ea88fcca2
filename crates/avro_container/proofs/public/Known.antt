-- What the laws of other crates say, as these proofs are handed it.
use Rattle.std.proofs.Common.{◌≡◌, ℕ, true, List, ◌++◌, Ok}
use Rattle.serde_json.specs.Data.{Data}
use Rattle.avro_schema.specs.Value.{Value}
use Rattle.avro_schema.specs.Node.{Node, node_at, root_of}
use Rattle.avro_schema.specs.Fits.{fits, LimitValues, is_within}
use Rattle.avro_schema.specs.WellFormed.{is_schema}
use Rattle.avro_schema_json.specs.DeclaredSchema.{DeclaresSchema}
use Rattle.avro_cursor.specs.Breaks.{Breaks}
use Rattle.avro_cursor.specs.Encoding.{Encodes, plain}
use Rattle.avro_cursor.specs.Fault.{ReadFault}
use Rattle.avro_compare.specs.Resolve.{resolve_root}

abbrev pub PlainEncodes : Type 0
PlainEncodes = (nodes : List Node) (id : ℕ) (v : Value) → is_schema nodes ≡ true → fits nodes (node_at nodes id) v ≡ true → Encodes nodes (node_at nodes id) v (plain v)

abbrev pub DeclaredIsSchema : Type 0
DeclaredIsSchema = (tree : Data) (nodes : List Node) → DeclaresSchema tree nodes → is_schema nodes ≡ true

abbrev pub ResolvedFits : Type 0
ResolvedFits = (writer reader : List Node) (v u : Value) → is_schema reader ≡ true
    → fits writer (root_of writer) v ≡ true → resolve_root writer reader v ≡ Ok u → fits reader (root_of reader) u ≡ true

abbrev pub FaultOrWithin : Type 0
FaultOrWithin = (nodes : List Node) (limits : LimitValues) (id : ℕ) (bytes : List ℕ) (f : ReadFault) (v : Value) (front rest : List ℕ) → is_schema nodes ≡ true
    → Breaks nodes limits (node_at nodes id) bytes f → Encodes nodes (node_at nodes id) v front → is_within limits v ≡ true → bytes ≡ front ++ rest → ⊥
