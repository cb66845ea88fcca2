use Rattle.std.proofs.Common.{bytes_eq}
use Rattle.std.proofs.lemmas.Iterator.Adapters.{position_from-zero}
use Rattle.avro_schema.specs.Seen.{texts_of}
use Rattle.avro_compare.proofs.symbols.index_of.Goals as goal

pub loop-index-init : goal.loop-index-init
loop-index-init c = position_from-zero (λ s. bytes_eq s c.args.symbol.now) (texts_of c.args.symbols.now)
