use Rattle.std.proofs.lemmas.Result.{IfOk-weaker}
use Rattle.avro_schema.specs.Seen.{seen_fields}
use Rattle.avro_compare.proofs.Shared.{sources_kept}
use Rattle.avro_compare.proofs.comparing.keep_sources.Goals as goal

pub returns : goal.returns
returns c =
    IfOk-weaker c.shared_sources.result _ _
    (λ kept. sources_kept (seen_fields c.args.writes.now) (seen_fields c.args.reads.now) c.args.found.now kept.items c.requires.each c.requires.all) c.shared_sources.ensures
