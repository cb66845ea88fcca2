use Rattle.std.proofs.Common.{bytes_eq}
use Rattle.std.proofs.lemmas.Iterator.Adapters.{position_from-zero}
use Rattle.avro_schema.specs.Seen.{seen_fields}
use Rattle.avro_compare.proofs.sourcing.index_named.Goals as goal

pub loop-index-init : goal.loop-index-init
loop-index-init c = position_from-zero (λ f. bytes_eq f.name c.args.name.now) (seen_fields c.args.fields.now)
