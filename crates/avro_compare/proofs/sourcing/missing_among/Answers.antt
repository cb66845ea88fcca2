use Rattle.avro_compare.proofs.public.Lists.{seen_at}
use Rattle.avro_compare.proofs.sourcing.missing_among.Goals as goal

pub source_at-requires-clause-there : goal.source_at-requires-clause-there
source_at-requires-clause-there c = seen_at c.args.reader.now c.loop-index.index c.index-reader-index.result c.loop-index-test.true c.index-reader-index.is
