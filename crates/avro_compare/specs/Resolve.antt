-- What a writer's datum is for a reader (Avro 1.11, "Schema Resolution"): a datum of the reader's, or the first fault.
use Rattle.std.specs.Prelude.{ℕ, suc, ℤ, cond, List, [], ◌∷◌, Option, Some, None, Result, Ok, Err, slice_get, unwrap_or, option_and_then, position, bytes_eq, map, ◌==◌}
use Rattle.std.specs.Str.{is_utf8}
use Rattle.avro_schema.specs.Value.{Value, Values, Entries, no_values, value, no_entries, entry}
use Rattle.avro_schema.specs.Node.{Node, FieldNode, node_at, root_of, items_node, values_node, branches_of, fields_of, symbols_of}
use Rattle.avro_compare.specs.Match.{is_match, first_match}
use Rattle.avro_compare.specs.Source.{source_of, reader_field, missing_field}
use Rattle.avro_compare.specs.Fault.{no_match, no_branch, missing_field_at, no_symbol, not_utf8, ResolutionFault, fault_here, fault_in}

-- what a datum becomes, or its first fault
abbrev pub Resolved : Type 0
Resolved = Result Value ResolutionFault

-- a result inside a part of the datum, at this step of the path
abbrev pub inside : {A : Type 0} → ℕ → Result A ResolutionFault → Result A ResolutionFault
inside step (Ok v) = Ok v
inside step (Err f) = Err (fault_in step f)

-- a result, changed if there is one
abbrev pub result_map : {A B : Type 0} → (A → B) → Result A ResolutionFault → Result B ResolutionFault
result_map f (Ok v) = Ok (f v)
result_map f (Err e) = Err e

-- the first result and then the second, or the first fault
abbrev pub both : {A B C : Type 0} → (A → B → C) → Result A ResolutionFault → Result B ResolutionFault → Result C ResolutionFault
both f (Ok a) (Ok b) = Ok (f a b)
both f (Ok a) (Err e) = Err e
both f (Err e) b = Err e

-- A writer's node that is not a union, against a reader's that is none: they match, or there is a
-- fault.
abbrev pub matched : List Node → List Node → Node → Node → (Node → Resolved) → Resolved
matched writer reader w r resolve = cond (is_match writer reader w r) (resolve r) (Err (fault_here no_match))

-- the branch of a union that is at an index among its branches
abbrev pub branch_node : List Node → List ℕ → ℕ → Node
branch_node nodes ids k = node_at nodes (unwrap_or (slice_get ids k) 0)

-- the first branch that matches takes the value
abbrev pub into_branch : List Node → List Node → Node → List ℕ → Option ℕ → (Node → Resolved) → Resolved
into_branch writer reader w ids None resolve = Err (fault_here no_branch)
into_branch writer reader w ids (Some k) resolve =
    result_map (Value.union k) (matched writer reader w (branch_node reader ids k) resolve)

-- A writer's node that is not a union, against any reader's node.
abbrev pub through : List Node → List Node → Node → Node → (Node → Resolved) → Resolved
through writer reader w (Node.union ids) resolve = into_branch writer reader w ids (first_match writer reader w ids) resolve
through writer reader w r resolve = matched writer reader w r resolve

-- an int is kept, and becomes a long where the reader has one
abbrev pub int_as : ℤ → Node → Resolved
int_as i Node.long = Ok (Value.long i)
int_as i r = Ok (Value.int i)

-- bytes are kept, or become the text whose UTF-8 they are
abbrev pub bytes_as : List ℕ → Node → Resolved
bytes_as b Node.string = cond (is_utf8 b) (Ok (Value.string b)) (Err (fault_here not_utf8))
bytes_as b r = Ok (Value.bytes b)

-- a text is kept, or becomes its UTF-8
abbrev pub string_as : List ℕ → Node → Resolved
string_as t Node.bytes = Ok (Value.bytes t)
string_as t r = Ok (Value.string t)

-- the index that the reader gives the writer's symbol, else its default
abbrev pub enum_or_default : Option ℕ → Option ℕ → Resolved
enum_or_default (Some symbol) default = Ok (Value.enum symbol)
enum_or_default None (Some default) = Ok (Value.enum default)
enum_or_default None None = Err (fault_here no_symbol)

-- a symbol of the writer's as one of a reader's node
abbrev pub enum_as : List ℕ → Node → Resolved
enum_as symbol (Node.enum name aliases symbols default) = enum_or_default (position (λ s. bytes_eq s symbol) symbols) default
enum_as symbol r = Err (fault_here no_symbol)

-- a node's part, of a node that has one
abbrev pub part_at : List Node → Option ℕ → Node
part_at nodes id = node_at nodes (unwrap_or id 0)

-- the symbol of a node at an index, empty if there is none
abbrev pub symbol_at : Node → ℕ → List ℕ
symbol_at w k = unwrap_or (option_and_then (λ symbols. slice_get symbols k) (symbols_of w)) []

-- the fields of a node, none if it is no record
abbrev pub fields_at : Node → List FieldNode
fields_at n = unwrap_or (fields_of n) []

-- what the writer's fields that are some reader's source resolve to, by their indices
abbrev pub Sourced : Type 0
Sourced = List (ℕ × Value)

-- what was found for an index, null if nothing was
abbrev pub sourced_at : Sourced → ℕ → Value
sourced_at [] index = Value.null
sourced_at (s ∷ ss) index = cond (s.0 == index) s.1 (sourced_at ss index)

-- a reader's field takes what its source resolved to, or its default
abbrev pub field_value : List FieldNode → Sourced → FieldNode → Value
field_value writer sourced f = from (source_of writer f) f.default
  where
    from : Option ℕ → Option Value → Value
    from (Some index) default = sourced_at sourced index
    from None default = unwrap_or default Value.null

-- the values of all of the reader's fields, in order
abbrev pub field_values : List FieldNode → Sourced → List FieldNode → Values
field_values writer sourced [] = no_values
field_values writer sourced (f ∷ fs) = value (field_value writer sourced f) (field_values writer sourced fs)

-- a reader's field without a source and a default is a fault before all others
abbrev pub record_or_missing : List FieldNode → List FieldNode → Option ℕ → Result Sourced ResolutionFault → Resolved
record_or_missing writer reader (Some index) sourced = Err (fault_here (missing_field_at index))
record_or_missing writer reader None sourced = result_map (λ found. Value.record_of (field_values writer found reader)) sourced

-- where the writer's field is some reader's source, its result comes before the later ones
abbrev pub with_sourced : Option FieldNode → ℕ → (FieldNode → Resolved) → Result Sourced ResolutionFault → Result Sourced ResolutionFault
with_sourced None index resolve later = later
with_sourced (Some f) index resolve later = both (λ v found. (index, v) ∷ found) (inside index (resolve f)) later

-- by induction on the datum, which fits the writer's node
abbrev mutual
  pub resolve : List Node → List Node → Node → Node → Value → Resolved
  resolve writer reader w r (Value.union k v) = inside 0 (resolve writer reader (branch_node writer (unwrap_or (branches_of w) []) k) r v)
  resolve writer reader w r Value.null = through writer reader w r (λ q. Ok Value.null)
  resolve writer reader w r (Value.boolean b) = through writer reader w r (λ q. Ok (Value.boolean b))
  resolve writer reader w r (Value.int i) = through writer reader w r (int_as i)
  resolve writer reader w r (Value.long i) = through writer reader w r (λ q. Ok (Value.long i))
  resolve writer reader w r (Value.bytes b) = through writer reader w r (bytes_as b)
  resolve writer reader w r (Value.string t) = through writer reader w r (string_as t)
  resolve writer reader w r (Value.array vs) = through writer reader w r
      (λ q. result_map Value.array (resolve_items writer reader (part_at writer (items_node w)) (part_at reader (items_node q)) 0 vs))
  resolve writer reader w r (Value.map_of es) = through writer reader w r
      (λ q. result_map Value.map_of (resolve_entries writer reader (part_at writer (values_node w)) (part_at reader (values_node q)) 0 es))
  resolve writer reader w r (Value.record_of vs) = through writer reader w r
      (λ q. record_or_missing (fields_at w) (fields_at q) (missing_field (fields_at w) (fields_at q))
      (resolve_sources writer reader (fields_at w) (fields_at q) 0 vs))
  resolve writer reader w r (Value.enum k) = through writer reader w r (enum_as (symbol_at w k))
  resolve writer reader w r (Value.fixed b) = through writer reader w r (λ q. Ok (Value.fixed b))

  -- the items, from an index on, in order
  pub resolve_items : List Node → List Node → Node → Node → ℕ → Values → Result Values ResolutionFault
  resolve_items writer reader w r index no_values = Ok no_values
  resolve_items writer reader w r index (value v vs) =
      both value (inside index (resolve writer reader w r v)) (resolve_items writer reader w r (suc index) vs)

  -- the entries, whose keys are kept
  pub resolve_entries : List Node → List Node → Node → Node → ℕ → Entries → Result Entries ResolutionFault
  resolve_entries writer reader w r index no_entries = Ok no_entries
  resolve_entries writer reader w r index (entry k v es) =
      both (entry k) (inside index (resolve writer reader w r v)) (resolve_entries writer reader w r (suc index) es)

  -- the writer's fields, from an index on, that are some reader's source, in the writer's order; others are ignored
  pub resolve_sources : List Node → List Node → List FieldNode → List FieldNode → ℕ → Values → Result Sourced ResolutionFault
  resolve_sources writer reader ws rs index no_values = Ok []
  resolve_sources writer reader ws rs index (value v vs) =
      with_sourced (reader_field ws rs index) index
      (λ f. resolve writer reader (node_at writer (unwrap_or (slice_get (map (λ g. g.node) ws) index) 0)) (node_at reader f.node) v)
      (resolve_sources writer reader ws rs (suc index) vs)

-- at the roots
abbrev pub resolve_root : List Node → List Node → Value → Resolved
resolve_root writer reader v = resolve writer reader (root_of writer) (root_of reader) v
