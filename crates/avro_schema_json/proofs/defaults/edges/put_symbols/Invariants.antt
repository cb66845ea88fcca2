use Rattle.avro_schema_json.proofs.Words.{KeepsLabels, KeepsParents, HasSymbol}
use Rattle.avro_schema_json.proofs.SymbolsSeen.{BeforeWord}
use Rattle.avro_schema_json.proofs.defaults.edges.put_symbols.Given as goal

abbrev pub invariant-loop-word : goal.invariant-loop-word
invariant-loop-word l =
    KeepsParents l.initial.parents l.parents × KeepsLabels l.initial.labels l.labels
    × BeforeWord l.words (HasSymbol l.labels l.parents l.last l.parent) l.word-index
