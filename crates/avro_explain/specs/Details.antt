-- What fails at a pair of nodes itself, whatever becomes of their parts: each fault, with its place among the symbols or
-- the fields (Avro 1.11, "Schema Resolution").
use Rattle.std.specs.Prelude.{ℕ, suc, cond, ◌||◌, List, [], ◌∷◌, ◌++◌, Option, Some, None, is_some, bytes_eq}
use Rattle.std.specs.List.{list_any}
use Rattle.avro_schema.specs.Node.{Node, FieldNode}
use Rattle.avro_compare.specs.Match.{is_match, first_match}
use Rattle.avro_compare.specs.Source.{source_of}
use Rattle.avro_explain.specs.declared.found.Detail.{Detail}
use Rattle.avro_explain.specs.declared.found.Detail.TheVariants.{NoMatch, NoBranch, NotUtf8, NoSymbol, MissingField}

-- the writer's symbols, from an index on, that are none of the reader's
abbrev pub lacking_one : ℕ → List ℕ → List (List ℕ) → List Detail
lacking_one index s theirs = cond (list_any (bytes_eq s) theirs) [] (NoSymbol index ∷ [])

-- the writer's symbols, from an index on, that the reader lacks
abbrev pub lacking_from : ℕ → List (List ℕ) → List (List ℕ) → List Detail
lacking_from index [] theirs = []
lacking_from index (s ∷ ss) theirs = lacking_one index s theirs ++ lacking_from (suc index) ss theirs

-- none where the reader's enum has a default
abbrev pub lacking : List (List ℕ) → List (List ℕ) → Option ℕ → List Detail
lacking symbols theirs None = lacking_from 0 symbols theirs
lacking symbols theirs (Some default) = []

-- the reader's fields, from an index on, that have neither a source nor a default
abbrev pub missing_one : ℕ → List FieldNode → FieldNode → List Detail
missing_one index fields f = cond (is_some (source_of fields f) || is_some f.default) [] (MissingField index ∷ [])

-- the reader's fields, from an index on, that have neither a source nor a default
abbrev pub missing_from : ℕ → List FieldNode → List FieldNode → List Detail
missing_from index fields [] = []
missing_from index fields (f ∷ theirs) = missing_one index fields f ++ missing_from (suc index) fields theirs

-- at two nodes that match and are no unions
abbrev pub details_of_kind : Node → Node → List Detail
details_of_kind Node.bytes Node.string = NotUtf8 ∷ []
details_of_kind (Node.enum a xs symbols x) (Node.enum b ys theirs y) = lacking symbols theirs y
details_of_kind (Node.record_of a xs fields) (Node.record_of b ys theirs) = missing_from 0 fields theirs
details_of_kind n q = []

-- the fault that no branch matches, unless one does
abbrev pub unless_some : Option ℕ → List Detail
unless_some None = NoBranch ∷ []
unless_some (Some k) = []

-- at any two nodes; a writer's union has no fault of its own
abbrev pub details_of : List Node → List Node → Node → Node → List Detail
details_of writer reader (Node.union ids) q = []
details_of writer reader n (Node.union ids) = unless_some (first_match writer reader n ids)
details_of writer reader n q = cond (is_match writer reader n q) (details_of_kind n q) (NoMatch ∷ [])
