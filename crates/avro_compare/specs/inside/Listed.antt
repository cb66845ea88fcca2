-- What a comparison finds of each field before it keeps what the two records share.
use Rattle.std.specs.Prelude.{◌≡◌, ℕ, List, Option, Some, None, slice_get}
use Rattle.avro_schema.specs.Node.{FieldNode}
use Rattle.avro_compare.specs.Pairs.{field_for}
use Rattle.avro_compare.specs.Source.{source_of}
use Rattle.avro_compare.specs.declared.comparison.At.{At}
use Rattle.avro_compare.specs.declared.comparison.At.TheVariants.{Ignored, Pair}

-- each is the source of the reader's field at its index
abbrev pub AreListedSources : List FieldNode → List FieldNode → List (Option ℕ) → Type 0
AreListedSources ws rs sources = (k : ℕ) (s : Option ℕ) → slice_get sources k ≡ Some s → (f : FieldNode) → slice_get rs k ≡ Some f → s ≡ source_of ws f

-- each is what the writer's field at its index is for
abbrev pub AreListedFor : List FieldNode → List FieldNode → List At → Type 0
AreListedFor ws rs parts = (k : ℕ) (at : At) → slice_get parts k ≡ Some at → at ≡ field_for ws rs k

-- the part at an index, unless it is ignored
abbrev pub shared_part : Option At → Option At
shared_part None = None
shared_part (Some Ignored) = None
shared_part (Some (Pair w r)) = Some (Pair w r)

-- the source at an index
abbrev pub listed_source : Option (Option ℕ) → Option ℕ
listed_source None = None
listed_source (Some s) = s
