-- The pairs of nodes that a pair leads to, and what fails at a pair itself.
use Rattle.std.specs.Prelude.{ℕ, Bool, true, false, not, ◌&&◌, ◌||◌, List, [], ◌∷◌, Option, Some, None, slice_get, map, is_some, is_none, flat_map, bytes_eq, unwrap_or, position}
use Rattle.std.specs.List.{list_any}
use Rattle.avro_schema.specs.Node.{Node, FieldNode, field_ids, symbols_of}
use Rattle.avro_compare.specs.Match.{is_match, first_match}
use Rattle.avro_compare.specs.Source.{source_of, missing_field}

-- a pair of nodes, the writer's and the reader's
pub record Pair : Type 0 where
  pub w : ℕ
  pub r : ℕ

-- a symbol that the reader lacks, where it has no default
abbrev pub lacks_symbol : List (List ℕ) → List (List ℕ) → Option ℕ → Bool
lacks_symbol symbols theirs default =
    is_none default && list_any (λ s. not (list_any (bytes_eq s) theirs)) symbols

-- a reader's node has neither a symbol nor a default for it
abbrev pub lacks : Node → List ℕ → Bool
lacks (Node.enum b ys theirs y) symbol = is_none y && not (list_any (bytes_eq symbol) theirs)
lacks q symbol = true

-- the first of the writer's symbols that the reader lacks, where it has no default
abbrev pub first_lacking : Node → Node → Option ℕ
first_lacking w q = position (lacks q) (unwrap_or (symbols_of w) [])

-- What fails at two nodes that match and are no unions, whatever becomes of their parts.
abbrev pub has_fault_of_kind : Node → Node → Bool
has_fault_of_kind Node.bytes Node.string = true
has_fault_of_kind (Node.enum a xs symbols x) (Node.enum b ys theirs y) = lacks_symbol symbols theirs y
has_fault_of_kind (Node.record_of a xs fields) (Node.record_of b ys theirs) = is_some (missing_field fields theirs)
has_fault_of_kind w r = false

-- What fails at a pair itself: a reader's union of which no branch matches, nodes that do not match, bytes for a string,
-- a symbol that the reader lacks, a field without source and default. A writer's union has no fault of its own.
abbrev pub has_local_fault : List Node → List Node → Node → Node → Bool
has_local_fault writer reader (Node.union ids) r = false
has_local_fault writer reader w (Node.union ids) = is_none (first_match writer reader w ids)
has_local_fault writer reader w r = not (is_match writer reader w r) || has_fault_of_kind w r

-- each reader's field that has a source, beside it
abbrev pub field_children : List FieldNode → List FieldNode → List Pair
field_children fields theirs = flat_map (λ f. of_source f (source_of fields f)) theirs
  where
    of_source : FieldNode → Option ℕ → List Pair
    of_source f None = []
    of_source f (Some index) = record { w = unwrap_or (slice_get (field_ids fields) index) 0; r = f.node } ∷ []

-- The pairs that a pair asks for: each branch of a writer's union with the same reader's node; the same writer's node with
-- the first branch of a reader's union that matches; the sources with their fields; the items or the values.
abbrev pub children_of : List Node → List Node → ℕ → ℕ → Node → Node → List Pair
children_of writer reader w r (Node.union ids) q = map (λ id. record { w = id; r = r }) ids
children_of writer reader w r n (Node.union ids) = of_branch (first_match writer reader n ids)
  where
    of_branch : Option ℕ → List Pair
    of_branch None = []
    of_branch (Some k) = record { w = w; r = unwrap_or (slice_get ids k) 0 } ∷ []
children_of writer reader w r (Node.record_of a xs fields) (Node.record_of b ys theirs) = field_children fields theirs
children_of writer reader w r (Node.array a) (Node.array b) = record { w = a; r = b } ∷ []
children_of writer reader w r (Node.map_of a) (Node.map_of b) = record { w = a; r = b } ∷ []
children_of writer reader w r n q = []
