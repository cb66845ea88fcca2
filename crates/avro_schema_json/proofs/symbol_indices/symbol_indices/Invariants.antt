use Rattle.avro_schema_json.proofs.Words.{◌≡◌, ◌≤◌, ℕ, List, length}
use Rattle.indexmap.specs.IndexMap.{get_by_text}
use Rattle.avro_schema_json.proofs.SymbolsFound.{index_from}
use Rattle.avro_schema_json.proofs.symbol_indices.symbol_indices.Given as goal

abbrev pub invariant-loop-left : goal.invariant-loop-left
invariant-loop-left l = (l.left ≤ length l.symbols) × ((word : List ℕ) → get_by_text l.indices word ≡ index_from word l.symbols l.left)

abbrev pub decreases-loop-left : goal.decreases-loop-left
decreases-loop-left l = l.left
