-- When a record is made for a reader from the encodings of the writer's fields, as they stand.
use Rattle.std.specs.Prelude.{◌≡◌, ℕ, ℤ, Bool, true, false, ◌||◌, List, ◌++◌, Some, None, slice_get}
use Rattle.avro_zigzag.specs.Number.{zigzag, AreGroups, IsShortest}
use Rattle.avro_schema.specs.Node.{Node, FieldNode, node_at, field_ids}
use Rattle.avro_schema.specs.Fits.{is_null_node, is_boolean_node, is_int_node, is_long_node, is_bytes_node, is_string_node}
use Rattle.avro_schema.specs.declared.schema.NodeId.{NodeId}
use Rattle.avro_cursor.specs.Encoding.{plain}
use Rattle.avro_binary.specs.Pieces.{piece}
use Rattle.avro_compare.specs.Fields.{IsField}
use Rattle.avro_compare.specs.Pairs.{IsTarget}
use Rattle.avro_compare.specs.Planned.{AreSources}
use Rattle.avro_compare.specs.Resolve.{Resolved, Sourced, fields_at, sourced_at, through}
use Rattle.avro_compare.specs.Source.{missing_field, source_of}
use Rattle.avro_compare.specs.declared.comparison.Target.TheVariants.{To}
use Rattle.avro_compare.specs.declared.comparison.Comparison.{Comparison}

-- a node is fixed
abbrev pub is_fixed_node : Node → Bool
is_fixed_node (Node.fixed name aliases size) = true
is_fixed_node _ = false

-- a writer's leaf whose plain encoding is also that of what each datum becomes for the reader's
abbrev pub is_as_written : Node → Node → Bool
is_as_written Node.null m = is_null_node m
is_as_written Node.boolean m = is_boolean_node m
is_as_written Node.int m = is_int_node m || is_long_node m
is_as_written Node.long m = is_long_node m
is_as_written Node.bytes m = is_bytes_node m
is_as_written Node.string m = is_string_node m || is_bytes_node m
is_as_written (Node.fixed name aliases size) m = is_fixed_node m
is_as_written _ m = false

-- a pair of leaves that lead to each other, of which the writer's encoding is copied
pub record IsCopied (writer reader : List Node) (n m : Node) : Type 0 where
  pub leads : (resolve : Node → Resolved) → through writer reader n m resolve ≡ resolve m
  pub kinds : is_as_written n m ≡ true

-- a reader's field is copied from the writer's at an index
abbrev pub CopiedFrom : List Node → List Node → List FieldNode → FieldNode → ℕ → Type 0
CopiedFrom writer reader ws f k = (id : ℕ) × (slice_get (field_ids ws) k ≡ Some id) × IsCopied writer reader (node_at writer id) (node_at reader f.node)

-- each of some fields that has a source is copied from it
abbrev pub AreCopied : List Node → List Node → List FieldNode → List FieldNode → Type 0
AreCopied writer reader ws rs = (f : FieldNode) → IsField f rs → (k : ℕ) → source_of ws f ≡ Some k → CopiedFrom writer reader ws f k

-- two records that lead to each other, of which no field is missing, and all fields are copied or have their defaults
pub record IsVerbatim (writer reader : List Node) (w r : NodeId) : Type 0 where
  pub leads : IsTarget writer reader (node_at writer w.0) (node_at reader r.0) (To None r)
  pub complete : missing_field (fields_at (node_at writer w.0)) (fields_at (node_at reader r.0)) ≡ None
  pub copied : AreCopied writer reader (fields_at (node_at writer w.0)) (fields_at (node_at reader r.0))

-- if a flag is set, the pair that is kept at its index is verbatim, and so are the sources of its fields kept
abbrev pub IsFlag : List Node → List Node → List Comparison → ℕ → Bool → Type 0
IsFlag writer reader pairs k flag = (p : Comparison) → slice_get pairs k ≡ Some p → flag ≡ true
    → IsVerbatim writer reader p.w p.r × AreSources (fields_at (node_at writer p.w.0)) (fields_at (node_at reader p.r.0)) p.sources.items

-- each flag says so of the pair at its index
abbrev pub AreFlags : List Node → List Node → List Comparison → List Bool → Type 0
AreFlags writer reader pairs flags = (k : ℕ) (flag : Bool) → slice_get flags k ≡ Some flag → IsFlag writer reader pairs k flag

-- whether the encodings of a leaf begin with a number
abbrev pub begins_with_number : Node → Bool
begins_with_number Node.null = false
begins_with_number Node.boolean = false
begins_with_number (Node.fixed name aliases size) = false
begins_with_number _ = true

-- a number at the front of bytes is in its shortest spelling
abbrev pub BeginsShortest : List ℕ → Type 0
BeginsShortest bytes = (most : ℕ) (i : ℤ) (front rest : List ℕ) → AreGroups most (zigzag i) front → bytes ≡ front ++ rest → IsShortest i front

-- bytes of a leaf are spelled as they are written
abbrev pub IsAsSpelled : Node → List ℕ → Type 0
IsAsSpelled m bytes = begins_with_number m ≡ true → BeginsShortest bytes

-- what was found of each source of a reader's field is, where its encoding is as it is written, what that is the plain encoding of
abbrev pub ArePlain : List Node → List FieldNode → List FieldNode → Sourced → List ℕ → List ℕ → Type 0
ArePlain reader ws rs found bytes ends = (f : FieldNode) → IsField f rs → (k : ℕ) → source_of ws f ≡ Some k
    → IsAsSpelled (node_at reader f.node) (piece bytes ends k) → plain (sourced_at found k) ≡ piece bytes ends k
