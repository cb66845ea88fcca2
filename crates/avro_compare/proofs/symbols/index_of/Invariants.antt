use Rattle.std.proofs.Common.{◌≡◌, drop, bytes_eq}
use Rattle.std.specs.List.{position, position_from}
use Rattle.avro_schema.specs.Seen.{texts_of}
use Rattle.avro_compare.proofs.symbols.index_of.Given as goal

abbrev pub invariant-loop-index : goal.invariant-loop-index
invariant-loop-index l =
    position (λ s. bytes_eq s l.symbol) (texts_of l.symbols) ≡ position_from (λ s. bytes_eq s l.symbol) l.index (texts_of (drop l.index l.symbols))
