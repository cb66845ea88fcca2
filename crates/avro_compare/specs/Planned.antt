-- What a plan keeps of pairs of nodes.
use Rattle.std.specs.Prelude.{◌≡◌, ◌⊎◌, ◌≤◌, ℕ, List, [], Option, Some, None, slice_get, unwrap_or, length}
use Rattle.avro_schema.specs.Node.{Node, FieldNode, node_at, symbols_of}
use Rattle.avro_schema.specs.declared.schema.NodeId.{NodeId}
use Rattle.avro_compare.specs.Children.{first_lacking}
use Rattle.avro_compare.specs.Entries.{AreAscending, entry_at}
use Rattle.avro_compare.specs.Pairs.{IsSymbol, target_at, field_for}
use Rattle.avro_compare.specs.Resolve.{enum_as, symbol_at, fields_at}
use Rattle.avro_compare.specs.Source.{source_of, missing_field}
use Rattle.avro_compare.specs.declared.comparison.Target.TheVariants.{To}
use Rattle.avro_compare.specs.declared.comparison.At.{At}
use Rattle.avro_compare.specs.declared.comparison.At.TheVariants.{Ignored}
use Rattle.avro_compare.specs.declared.comparison.Comparison.{Comparison}

-- of the reader's fields from an index on, those with a source are there with it, in order
abbrev pub AreSourcesFrom : ℕ → List FieldNode → List FieldNode → List (ℕ × ℕ) → Type 0
AreSourcesFrom n ws rs sources = AreAscending n sources × ((k : ℕ) (f : FieldNode) → n ≤ k → slice_get rs k ≡ Some f → entry_at sources k ≡ source_of ws f)

-- the reader's fields that have a source are there with it, in order
abbrev pub AreSources : List FieldNode → List FieldNode → List (ℕ × ℕ) → Type 0
AreSources ws rs sources = AreSourcesFrom 0 ws rs sources

-- what is not there is for nothing
abbrev pub part_or_none : Option At → At
part_or_none None = Ignored
part_or_none (Some at) = at

-- of the writer's fields from an index on, those that are for something are there with it, in order
abbrev pub AreForFrom : ℕ → List FieldNode → List FieldNode → List (ℕ × At) → Type 0
AreForFrom n ws rs parts = AreAscending n parts × ((k : ℕ) → n ≤ k → part_or_none (entry_at parts k) ≡ field_for ws rs k)

-- the writer's fields that are for something are there with it, in order
abbrev pub AreFor : List FieldNode → List FieldNode → List (ℕ × At) → Type 0
AreFor ws rs parts = AreForFrom 0 ws rs parts

-- each is the reader's symbol for the writer's at its index
abbrev pub AreSymbols : Node → Node → List (Option ℕ) → Type 0
AreSymbols w q symbols = (k : ℕ) (s : Option ℕ) → slice_get symbols k ≡ Some s → IsSymbol (enum_as (symbol_at w k) q) s

-- What is kept inside two nodes is what their fields and their symbols are to each other: of the fields that the two share, and of each
-- symbol, or of none.
pub record AreInside (w q : Node) (p : Comparison) : Type 0 where
  pub complete : p.missing ≡ missing_field (fields_at w) (fields_at q)
  pub lacking : p.lacking ≡ first_lacking w q
  pub fields : AreFor (fields_at w) (fields_at q) p.fields.items
  pub sources : AreSources (fields_at w) (fields_at q) p.sources.items
  pub symbols : AreSymbols w q p.symbols.items
  pub all_symbols : (p.symbols.items ≡ []) ⊎ (length p.symbols.items ≡ length (unwrap_or (symbols_of w) []))

-- what is kept of a pair of nodes is where it leads; and where this is to the reader's node itself, what is inside
pub record IsComparison (writer reader : List Node) (p : Comparison) : Type 0 where
  pub targets : p.target ≡ target_at writer reader p.w p.r
  pub inside : (q : NodeId) → p.target ≡ To None q → AreInside (node_at writer p.w.0) (node_at reader p.r.0) p

-- the same of each of several
abbrev pub AreComparisons : List Node → List Node → List Comparison → Type 0
AreComparisons writer reader pairs = (k : ℕ) (p : Comparison) → slice_get pairs k ≡ Some p → IsComparison writer reader p
