use Rattle.std.proofs.Common.{rules}
use Rattle.avro_schema.specs.Seen.{field_of}
use Rattle.avro_compare.proofs.public.Planning.{kept_here}
use Rattle.avro_compare.proofs.sourcing.source_kept.Goals as goal

pub returns-then-index-sources : goal.returns-then-index-sources
returns-then-index-sources c = λ rs all is.
    all c.args.index _ (kept_here c.args.sources.now c.args.index _ (search rules) c.if-index-sources.true) (field_of c.args.f.now) is
