use Rattle.avro_schema_json.proofs.Words.{◌≡◌, texts_of, symbol_index}
use Rattle.avro_schema_json.proofs.SymbolsFound.{index_from}
use Rattle.avro_schema_json.proofs.symbol_indices.index_of_symbol.Given as goal

abbrev pub invariant-loop-index : goal.invariant-loop-index
invariant-loop-index l = symbol_index l.word (texts_of l.symbols) ≡ index_from l.word l.symbols l.index
